use Rattle.hv_whole.proofs.Roots.{root_run}
use Rattle.hv_whole.proofs.WholeRuns.{whole_runs}
use Rattle.hv_whole.proofs.laws.bare_runs_are_those_of_one_hart.Goals as goal

pub returns : goal.returns
returns c = root_run whole_runs
