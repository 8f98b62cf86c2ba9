use Rattle.hv_move.proofs.PlacedRuns.{placed_is}
use Rattle.hv_move.proofs.laws.placed_machine_is_there.Goals as goal

pub returns : goal.returns
returns c = placed_is
