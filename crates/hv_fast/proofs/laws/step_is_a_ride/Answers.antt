use Rattle.hv_fast.proofs.Descending.{ride}
use Rattle.hv_fast.proofs.laws.step_is_a_ride.Goals as goal

pub returns : goal.returns
returns c = ride
