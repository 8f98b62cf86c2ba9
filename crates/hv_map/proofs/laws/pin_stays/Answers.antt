use Rattle.hv_map.proofs.Holding.{pin_stays}
use Rattle.hv_map.proofs.laws.pin_stays.Goals as goal

pub returns : goal.returns
returns c = pin_stays
