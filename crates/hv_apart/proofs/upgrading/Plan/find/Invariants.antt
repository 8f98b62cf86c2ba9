use Rattle.std.proofs.Common.{◌≡◌, ℕ, ◌+◌, ◌<◌, Some, get_or, length}
use Rattle.hv_map.specs.Chain.{map_along}
use Rattle.hv_apart.specs.Upgrade.{written_in}
use Rattle.hv_apart.proofs.upgrading.Plan.find.Given as goal

-- the bare pages that were found so far
abbrev pub invariant-loop-k : goal.invariant-loop-k
invariant-loop-k l = record {
  found : (m : ℕ) → m < l.k → written_in (map_along l.store l.parent) (l.child.table + m) ≡ Some (get_or l.tables m 0);
  len : length l.tables ≡ 1024;
}
