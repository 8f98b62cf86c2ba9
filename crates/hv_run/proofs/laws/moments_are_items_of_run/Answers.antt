use Rattle.hv_run.proofs.Runs.{moments}
use Rattle.hv_run.proofs.laws.moments_are_items_of_run.Goals as goal

pub returns : goal.returns
returns c = moments
