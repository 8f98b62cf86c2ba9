use Rattle.hv_cache.proofs.Finding.{only_kept_is_new}
use Rattle.hv_cache.proofs.laws.only_what_is_kept_is_new.Goals as goal

pub returns : goal.returns
returns c = only_kept_is_new
