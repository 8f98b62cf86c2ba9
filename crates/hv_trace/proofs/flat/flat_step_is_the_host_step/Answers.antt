use Rattle.hv_trace.proofs.Flats.{flat}
use Rattle.hv_trace.proofs.flat.flat_step_is_the_host_step.Goals as goal

pub returns : goal.returns
returns c = flat
