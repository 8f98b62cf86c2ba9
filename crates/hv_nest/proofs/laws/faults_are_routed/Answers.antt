use Rattle.hv_nest.proofs.Routes.{routing}
use Rattle.hv_nest.proofs.laws.faults_are_routed.Goals as goal

pub returns : goal.returns
returns c = routing
