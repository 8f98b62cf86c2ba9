use Rattle.hv_nest.proofs.SimulationLaws.{inner_simulation, simulation}
use Rattle.hv_nest.proofs.laws.one_step_simulates.Goals as goal

pub returns-clause-machine : goal.returns-clause-machine
returns-clause-machine c = simulation

pub returns-clause-inner : goal.returns-clause-inner
returns-clause-inner c = inner_simulation
