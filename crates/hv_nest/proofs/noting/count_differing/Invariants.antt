use Rattle.std.proofs.Common.{◌≡◌, ◌≤◌, take}
use Rattle.hv_exec.specs.Changes.{differing}
use Rattle.hv_nest.proofs.noting.count_differing.Given as goal

abbrev pub invariant-loop-i : goal.invariant-loop-i
invariant-loop-i l = record {
  counted : l.count ≡ differing l.before (take l.i l.words);
  few : l.count ≤ l.i;
}
