use Rattle.hv_move.proofs.Continuing.{continued}
use Rattle.hv_move.proofs.laws.continued_runs_are_bare_runs.Goals as goal

pub returns : goal.returns
returns c = continued
