use Rattle.hv_map.proofs.Trails.{trail_law}
use Rattle.hv_map.proofs.laws.trail_is_map.Goals as goal

pub returns : goal.returns
returns c = trail_law
