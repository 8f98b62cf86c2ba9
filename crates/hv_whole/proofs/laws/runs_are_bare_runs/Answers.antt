use Rattle.hv_whole.proofs.WholeRuns.{whole_runs}
use Rattle.hv_whole.proofs.laws.runs_are_bare_runs.Goals as goal

pub returns : goal.returns
returns c = whole_runs
