-- The program at the top of a tower runs as the same program does on a bare machine.
use Rattle.std.specs.Prelude.{◌≡◌, ℕ, ◌≤◌, List, All, Ok}
use Rattle.hv_limits.specs.Limits.{depth_limit, pages_limit}
use Rattle.hv_job.specs.declared.job.Job.{Job}
use Rattle.hv_job.specs.declared.job.Placed.{Placed}
use Rattle.hv_load.specs.Build.{build_of}
use Rattle.hv_load.specs.declared.start.Start.{Start}
use Rattle.hv_towers.specs.Tower.{TowerPlayed}
use Rattle.hv_towers.specs.Towers.{IsTopLine, TowerBuilt, with_tower}

-- A tower was built, and was played for as many steps as its monitors take to enter one another, and m more.
pub record TowerRun (depth top m : ℕ) (parts : List Placed) (start alone : Start) : Type 0 where
  pub built : TowerBuilt depth top parts start alone
  pub played : TowerPlayed depth start.store alone.store built.items m

-- Where a job with a tower and one hart is built, and the same lines on a bare machine are too, the program at the top
-- is watched whole: its pages are different and apart, nobody touches it, the monitors' steps aren't counted, and it
-- has made m steps and is as the bare machine after m steps, unless a machine was asked to run another that is too
-- deep.
abbrev pub TowerLaw : Type 0
TowerLaw =
    (job : Job) (pages depth top line m : ℕ) (parts : List Placed) (start alone : Start)
    → job.harts ≡ 1
    → pages ≤ pages_limit
    → 1 ≤ depth
    → depth ≤ depth_limit
    → 1 ≤ top
    → All IsTopLine parts
    → build_of (with_tower job pages depth top line parts) ≡ Ok start
    → build_of (with_tower job top 0 top line parts) ≡ Ok alone
    → TowerRun depth top m parts start alone
