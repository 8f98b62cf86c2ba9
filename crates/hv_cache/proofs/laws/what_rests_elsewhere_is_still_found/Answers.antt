use Rattle.hv_cache.proofs.Finding.{forgotten}
use Rattle.hv_cache.proofs.laws.what_rests_elsewhere_is_still_found.Goals as goal

pub returns : goal.returns
returns c = forgotten
