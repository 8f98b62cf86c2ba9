-- What is always built: a tower that fits the storage, and the job of a number.
use Rattle.std.specs.Prelude.{ℕ, ◌≤◌, IsOk}
use Rattle.hv_limits.specs.Limits.{depth_limit, pages_limit}
use Rattle.hv_samples.specs.declared.choice.Sample.TheVariants.{Pass}
use Rattle.hv_load.specs.Build.{build_of, towered_of}
use Rattle.hv_load.specs.Building.{nothing_built}
use Rattle.hv_load.specs.Generator.{gen_job_of}
use Rattle.hv_load.specs.Tower.{grown}

-- A tower that isn't too deep is built wherever the storage has the pages that it needs: those of the machine at the
-- top, grown once for each machine.
abbrev pub TowerFitLaw : Type 0
TowerFitLaw =
    (pages line depth top : ℕ)
    → pages ≤ pages_limit
    → depth ≤ depth_limit
    → 1 ≤ top
    → grown depth top ≤ pages
    → IsOk (towered_of (nothing_built pages 1) line depth top Pass)

-- The job of a number is built, whatever the number.
abbrev pub GeneratedBuildLaw : Type 0
GeneratedBuildLaw = (number : ℕ) → IsOk (build_of (gen_job_of number))
