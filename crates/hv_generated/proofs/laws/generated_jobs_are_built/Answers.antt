use Rattle.hv_generated.proofs.Jobs.{jobs_built}
use Rattle.hv_generated.proofs.laws.generated_jobs_are_built.Goals as goal

pub returns : goal.returns
returns c = jobs_built
