use Rattle.hv_run.proofs.Guests.{guests}
use Rattle.hv_run.proofs.laws.guests_cannot_tell.Goals as goal

pub returns : goal.returns
returns c = guests
