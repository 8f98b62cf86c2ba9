use Rattle.std.proofs.Common.{◌≡◌, drop, length}
use Rattle.hv_load.specs.Pages.{with_values}
use Rattle.hv_load.proofs.finding.put_values.Given as goal

-- what is left to write comes to the same
abbrev pub invariant-loop-i : goal.invariant-loop-i
invariant-loop-i l = record {
  left : with_values l.store (drop l.i l.places) (drop l.i l.values) ≡ with_values l.fn.store l.places l.values;
  len : length l.store ≡ length l.fn.store;
}
