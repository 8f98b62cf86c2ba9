-- What building a tower of monitors with a program at its top comes to.
use Rattle.std.specs.Prelude.{◌≡◌, ℕ, ◌≤◌, List, [], ◌∷◌, replicate, All, Ok, codes}
use Rattle.hv_limits.specs.Limits.{depth_limit, pages_limit}
use Rattle.hv_cpu.specs.Regs.{reset_regs}
use Rattle.hv_job.specs.Limited.{amount_of}
use Rattle.hv_line.specs.declared.types.Directive.{Directive}
use Rattle.hv_line.specs.declared.types.Directive.TheVariants as directive
use Rattle.hv_job.specs.declared.job.Job.{Job}
use Rattle.hv_job.specs.declared.job.Placed.{Placed}
use Rattle.hv_job.specs.declared.limited.Limited.TheVariants as limited
use Rattle.hv_load.specs.Build.{build_of}
use Rattle.hv_load.specs.declared.start.Start.{Start}
use Rattle.hv_map.specs.Item.{Item}
use Rattle.hv_samples.specs.declared.choice.Sample.TheVariants.{Pass}
use Rattle.hv_towers.specs.Laid.{Laid}

-- a line that writes to the machine at the top, runs the one hart, or watches the top
abbrev pub IsTop : Directive → Type 0
IsTop (directive.Image name image) = name ≡ codes "top"
IsTop (directive.Word name at values) = name ≡ codes "top"
IsTop (directive.Turn hart) = hart ≡ 0
IsTop (directive.Watch hart name) = (hart ≡ 0) × (name ≡ codes "top")
IsTop _ = ⊥

-- the same of a line with its number
abbrev pub IsTopLine : Placed → Type 0
IsTopLine placed = IsTop placed.what

-- a job whose first line makes a tower of this depth, with so many pages at its top, and whose other lines are given
abbrev pub with_tower : Job → (pages depth top line : ℕ) → List Placed → Job
with_tower job pages depth top line parts =
    record job { pages = pages; lines = record { line = line; what = directive.Tower depth top Pass } ∷ parts }

-- The machines lie as a tower does, the top sees the storage that the bare machine has at the start of the same lines,
-- the one hart is as after a reset, and each watch is one of the top.
pub record TowerBuilt (depth top : ℕ) (parts : List Placed) (start alone : Start) : Type 0 where
  pub items : List Item
  pub laid : Laid depth top start.store alone.store items
  pub harts : start.harts ≡ reset_regs ∷ []
  pub watches :
      start.plan.watches ≡ replicate (amount_of limited.Watches parts) record { hart = 0; path = replicate depth 1 }

-- Where a job with a tower and one hart is built, and the same lines without the tower are too.
abbrev pub TowerBuildLaw : Type 0
TowerBuildLaw =
    (job : Job) (pages depth top line : ℕ) (parts : List Placed) (start alone : Start)
    → job.harts ≡ 1
    → pages ≤ pages_limit
    → 1 ≤ depth
    → depth ≤ depth_limit
    → 1 ≤ top
    → All IsTopLine parts
    → build_of (with_tower job pages depth top line parts) ≡ Ok start
    → build_of (with_tower job top 0 top line parts) ≡ Ok alone
    → TowerBuilt depth top parts start alone
