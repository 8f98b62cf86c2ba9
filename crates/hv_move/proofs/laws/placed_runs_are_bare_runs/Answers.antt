use Rattle.hv_move.proofs.PlacedRuns.{placed_runs}
use Rattle.hv_move.proofs.laws.placed_runs_are_bare_runs.Goals as goal

pub returns : goal.returns
returns c = placed_runs
