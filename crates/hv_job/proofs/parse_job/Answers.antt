use Rattle.std.proofs.Common.{rules}
use Rattle.hv_job.specs.JobOf.{job_of}
use Rattle.hv_job.proofs.Limiting.{job_is}
use Rattle.hv_job.proofs.parse_job.Goals as goal

pub returns-clause-limits : goal.returns-clause-limits
unfolding job_of
returns-clause-limits c = job_is c.args.bytes.now c.read_body.result (search rules)
