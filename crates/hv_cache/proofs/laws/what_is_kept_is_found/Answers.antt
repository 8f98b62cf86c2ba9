use Rattle.hv_cache.proofs.Finding.{kept_is_found}
use Rattle.hv_cache.proofs.laws.what_is_kept_is_found.Goals as goal

pub returns : goal.returns
returns c = kept_is_found
