-- What a play needs of a start that a job is built to.
use Rattle.std.proofs.Common.{◌≡◌, ℕ, List, [], ◌∷◌, length}
use Rattle.std.specs.List.{All}
use Rattle.hv_cpu.specs.Regs.{Regs}
use Rattle.hv_map.specs.declared.path.Watch.{Watch}
use Rattle.hv_nest.specs.Kinds.{NextBelow}
use Rattle.hv_run.specs.Stands.{CanWatch, watches_of}
use Rattle.hv_load.specs.Ready.{EachWatched}

pub watchable : (S : List ℕ) (hs : List Regs) (ws : List Watch) → EachWatched S (length hs) ws → CanWatch (record { storage = S; harts = hs }) (watches_of ws)
watchable S hs [] each = tt
watchable S hs (w ∷ ws) each = (
  record { hart = each.0.hart; machine = each.0.machine; bare = each.0.bare },
  watchable S hs ws each.1,
)

-- a hart without a machine to run
pub none_next : (n : ℕ) (hs : List Regs) → All (λ (r : Regs). r.next ≡ 0) hs → All (NextBelow n) hs
none_next n hs idle = λ k d lt some. absurd (some (idle k d lt))
