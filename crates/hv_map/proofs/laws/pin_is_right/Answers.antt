use Rattle.hv_map.proofs.Holding.{pin_right}
use Rattle.hv_map.proofs.laws.pin_is_right.Goals as goal

pub returns : goal.returns
returns c = pin_right
