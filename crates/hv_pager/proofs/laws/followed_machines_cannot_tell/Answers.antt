use Rattle.hv_pager.proofs.Followed.{followed_run}
use Rattle.hv_pager.proofs.laws.followed_machines_cannot_tell.Goals as goal

pub returns : goal.returns
returns c = followed_run
