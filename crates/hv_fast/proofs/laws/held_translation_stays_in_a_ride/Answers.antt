use Rattle.hv_fast.proofs.Staying.{held_rides}
use Rattle.hv_fast.proofs.laws.held_translation_stays_in_a_ride.Goals as goal

pub returns : goal.returns
returns c = held_rides
