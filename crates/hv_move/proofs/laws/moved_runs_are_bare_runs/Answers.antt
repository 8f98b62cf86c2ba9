use Rattle.hv_move.proofs.Moving.{moved_runs}
use Rattle.hv_move.proofs.laws.moved_runs_are_bare_runs.Goals as goal

pub returns : goal.returns
returns c = moved_runs
