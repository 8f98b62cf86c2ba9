-- What a job has only so much of, and how much of it each directive takes.
use Rattle.std.specs.Prelude.{ℕ, ◌*◌, Bool, true, false, if◌then◌else◌, List, length, sum_by, Option, Some, None}
use Rattle.hv_line.specs.JobLimits.{job_dumps, job_image_bytes, job_machines, job_watches}
use Rattle.hv_line.specs.declared.types.Directive.{Directive}
use Rattle.hv_line.specs.declared.types.Directive.TheVariants as directive
use Rattle.hv_job.specs.declared.job.Placed.{Placed}
use Rattle.hv_job.specs.declared.limited.Amounts.{Amounts}
use Rattle.hv_job.specs.declared.limited.Limited.{Limited}
use Rattle.hv_job.specs.declared.limited.Limited.TheVariants as limited
use Rattle.hv_job.specs.declared.limited.Share.{Share}

-- how much of it there can be in a job
abbrev pub limit_of : Limited → ℕ
limit_of limited.Machines = job_machines
limit_of limited.Watches = job_watches
limit_of limited.Dumps = job_dumps
limit_of limited.ImageBytes = job_image_bytes

-- what a directive takes: itself, if there can be only so many of its kind, or the bytes of its image
abbrev pub taken_by : Directive → Option Share
taken_by (directive.Machine name parent block pages table at) =
    Some (record { of = limited.Machines; amount = 1 })
taken_by (directive.Watch hart name) = Some (record { of = limited.Watches; amount = 1 })
taken_by (directive.Dump name page) = Some (record { of = limited.Dumps; amount = 1 })
taken_by (directive.Image name image) =
    Some (record { of = limited.ImageBytes; amount = 4 * length image.words })
taken_by (directive.Sample name image) =
    Some (record { of = limited.ImageBytes; amount = 4 * length image.words })
taken_by _ = None

-- whether the two are the same
abbrev pub is_same : Limited → Limited → Bool
is_same limited.Machines limited.Machines = true
is_same limited.Watches limited.Watches = true
is_same limited.Dumps limited.Dumps = true
is_same limited.ImageBytes limited.ImageBytes = true
is_same _ _ = false

-- how much of it is in what is taken
abbrev pub part_of : Limited → Option Share → ℕ
part_of of None = 0
part_of of (Some share) = if is_same of share.of then share.amount else 0

-- how much of it a directive takes
abbrev pub share_of : Limited → Directive → ℕ
share_of of what = part_of of (taken_by what)

-- how much of it the directives of these lines take together
abbrev pub amount_of : Limited → List Placed → ℕ
amount_of of lines = sum_by (λ placed. share_of of placed.what) lines

-- how much of it was counted
abbrev pub counted_of : Amounts → Limited → ℕ
counted_of amounts limited.Machines = amounts.machines
counted_of amounts limited.Watches = amounts.watches
counted_of amounts limited.Dumps = amounts.dumps
counted_of amounts limited.ImageBytes = amounts.image_bytes
