use Rattle.hv_fast.proofs.Staying.{pin_rides, quiet_rides}
use Rattle.hv_fast.proofs.laws.pin_stays_in_a_ride.Goals as goal

pub returns-clause-pin : goal.returns-clause-pin
returns-clause-pin c = pin_rides

pub returns-clause-quiet : goal.returns-clause-quiet
returns-clause-quiet c = quiet_rides
