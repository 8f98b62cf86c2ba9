use Rattle.hv_run.proofs.Routes.{faults}
use Rattle.hv_run.proofs.laws.faults_reach_first_refusing_level.Goals as goal

pub returns : goal.returns
returns c = faults
