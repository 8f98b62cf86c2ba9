use Rattle.std.proofs.Common.{◌≡◌, ℕ, ◌+◌, false, length, replicate}
use Rattle.hv_nest.specs.Move.{StepOf, running_of}
use Rattle.hv_run.specs.Play.{CountTogether, CountsWithin, Played, counted_played}
use Rattle.hv_run.specs.Stands.{Follows}
use Rattle.hv_run.proofs.making.make_steps.Given as goal

abbrev pub invariant-loop-i : goal.invariant-loop-i
invariant-loop-i g l = record {
  harts : length (g.N.Nested.state l.nested).harts ≡ length (g.N.Nested.state l.fn.nested).harts;
  path : l.together.all ≡ false → l.path ≡ running_of (g.N.Nested.state l.nested) l.hart;
  once : l.together.all ≡ false → l.together.working ≡ false → l.i ≡ 0;
  within : (n : ℕ) → CountsWithin n l.fn.counts → CountsWithin (n + l.i) l.counts;
  stands : (p : Played) → p.counts ≡ l.fn.counts → CountTogether l.together l.hart l.path p.watching
      → Follows p (g.N.Nested.state l.fn.nested) (counted_played l.i l.counts (g.N.Nested.state l.nested) p) (g.N.Nested.state l.nested) (replicate l.i (StepOf l.hart));
}
