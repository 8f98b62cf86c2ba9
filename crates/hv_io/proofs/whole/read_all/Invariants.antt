-- What was read so far is what the source gave, it is within the limit, and the count never fell.
use Rattle.std.proofs.Common.{◌≡◌, ◌+◌, ◌-◌, ◌≤◌, length}
use Rattle.std.specs.Io.KnownBytes.{Consumes}
use Rattle.hv_limits.specs.Limits.{input_limit}
use Rattle.hv_io.proofs.whole.read_all.Given as goal

abbrev pub invariant-loop-bytes : goal.invariant-loop-bytes
invariant-loop-bytes g l = record {
  given : Consumes (g.S.Source.left l.fn.source) (g.S.Source.left l.source) l.bytes.items;
  short : length l.bytes.items ≤ input_limit;
  later : g.S.Source.faults l.fn.source ≤ g.S.Source.faults l.source;
  same : g.S.Source.made l.source ≡ g.S.Source.made l.fn.source;
}

abbrev pub decreases-loop-bytes : goal.decreases-loop-bytes
decreases-loop-bytes g l = input_limit + 1 - length l.bytes.items
