use Rattle.std.proofs.Common.{◌≡◌, ℕ, ◌<◌, true}
use Rattle.hv_map.specs.Chain.{map_along}
use Rattle.hv_move.specs.Saved.{can_read}
use Rattle.hv_move.proofs.saving.first_absent.Given as goal

-- the pages before can be read
abbrev pub invariant-loop-page : goal.invariant-loop-page
invariant-loop-page l = (m : ℕ) → m < l.page → can_read (map_along l.store l.chain) m ≡ true
