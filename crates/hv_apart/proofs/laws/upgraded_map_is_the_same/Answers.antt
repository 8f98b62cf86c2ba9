use Rattle.hv_apart.proofs.SameMap.{map_law}
use Rattle.hv_apart.proofs.laws.upgraded_map_is_the_same.Goals as goal

pub returns : goal.returns
returns c = map_law
