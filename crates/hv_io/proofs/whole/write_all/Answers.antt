-- One turn appends the front of what was left.
use Rattle.std.proofs.Common.{arith, rules}
use Rattle.hv_io.proofs.Fronts.{Appends-more}
use Rattle.hv_io.proofs.whole.write_all.Goals as goal

pub loop-done-preserved : goal.loop-done-preserved
loop-done-preserved g c = record {
  inside = omega (arith, c.in_ok-done.ensures.bound);
  bytes = Appends-more _ _ _ c.args.piece.now _ _ c.loop-done.invariant.bytes c.in_ok-done.ensures.bytes;
  later = search rules;
  same = search rules;
}
