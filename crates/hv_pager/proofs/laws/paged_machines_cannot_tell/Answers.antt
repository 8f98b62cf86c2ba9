use Rattle.hv_pager.proofs.Demanded.{paged_run}
use Rattle.hv_pager.proofs.laws.paged_machines_cannot_tell.Goals as goal

pub returns : goal.returns
returns c = paged_run
