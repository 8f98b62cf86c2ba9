use Rattle.hv_move.proofs.PlacedRuns.{saved_again}
use Rattle.hv_move.proofs.laws.placed_machine_is_saved_again.Goals as goal

pub returns : goal.returns
returns c = saved_again
