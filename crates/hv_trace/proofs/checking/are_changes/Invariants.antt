use Rattle.std.proofs.Common.{◌≤◌, length}
use Rattle.hv_trace.proofs.Changed.{Agrees}
use Rattle.hv_trace.proofs.checking.are_changes.Given as goal

abbrev pub invariant-loop-place : goal.invariant-loop-place
invariant-loop-place l = record {
  inside : l.told ≤ length l.changes;
  agrees : Agrees l.before l.after l.changes l.told l.place;
}
