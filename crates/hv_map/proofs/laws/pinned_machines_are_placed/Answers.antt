use Rattle.hv_map.proofs.Holding.{pin_placed}
use Rattle.hv_map.proofs.laws.pinned_machines_are_placed.Goals as goal

pub returns : goal.returns
returns c = pin_placed
