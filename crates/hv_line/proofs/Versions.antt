-- A text of no form asks for more than the most that a text can ask for.
use Rattle.std.proofs.Common.{◌≤◌, arith}
use Rattle.hv_line.specs.JobLimits.{depth_in, harts_in, job_depth, job_harts}
use Rattle.hv_line.specs.declared.version.JobVersion.{JobVersion}
use Rattle.hv_line.specs.declared.version.JobVersion.TheVariants.{One, Two}

pub harts_within : (version : JobVersion) → harts_in version ≤ job_harts
harts_within One = omega arith
harts_within Two = omega arith

pub depth_within : (version : JobVersion) → depth_in version ≤ job_depth
depth_within One = omega arith
depth_within Two = omega arith
