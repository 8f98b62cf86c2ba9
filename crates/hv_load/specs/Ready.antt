-- What always holds of the start of a job.
use Rattle.std.specs.Prelude.{◌≡◌, ℕ, ◌*◌, ◌<◌, ◌≤◌, List, [], ◌∷◌, length, All}
use Rattle.hv_line.specs.JobLimits.{job_dumps, job_watches}
use Rattle.hv_job.specs.declared.job.Job.{Job}
use Rattle.hv_map.specs.Chain.{IsThere, pin_of}
use Rattle.hv_map.specs.declared.path.Watch.{Watch}
use Rattle.hv_load.specs.declared.start.Start.{Start}

-- the hart of a watch is there and its machine is, and this is the bare machine only where there is one hart
pub record IsWatched (S : List ℕ) (harts : ℕ) (w : Watch) : Type 0 where
  pub hart : w.hart < harts
  pub machine : IsThere S (pin_of S w.path)
  pub bare : w.path ≡ [] → harts ≡ 1

-- that holds of each watch
abbrev pub EachWatched : List ℕ → ℕ → List Watch → Type 0
EachWatched S harts [] = Unit {0}
EachWatched S harts (w ∷ ws) = IsWatched S harts w × EachWatched S harts ws

-- The storage and the harts are those that the job asks for, no hart runs a machine yet, each watch can be played, and
-- the limits are kept.
pub record IsReady (job : Job) (start : Start) : Type 0 where
  pub words : length start.store ≡ 1024 * job.pages
  pub harts : length start.harts ≡ job.harts
  pub idle : All (λ r. r.next ≡ 0) start.harts
  pub watches : EachWatched start.store (length start.harts) start.plan.watches
  pub few : length start.plan.watches ≤ job_watches
  pub dumps : length start.plan.dumps ≤ job_dumps
