use Rattle.hv_map.proofs.GatheredMaps.{slots-along}
use Rattle.hv_map.proofs.laws.gathered_pages_stand_beside_map.Goals as goal

pub returns : goal.returns
returns c = slots-along
