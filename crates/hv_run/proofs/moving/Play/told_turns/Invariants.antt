use Rattle.std.proofs.Common.{◌≡◌, ◌≢◌, [], ◌+◌, ◌-◌, ◌≤◌, length, replicate}
use Rattle.hv_nest.specs.Move.{StepOf}
use Rattle.hv_run.specs.Stands.{Follows}
use Rattle.hv_run.proofs.moving.Play.told_turns.Given as goal

abbrev pub invariant-loop-left : goal.invariant-loop-left
invariant-loop-left g l = record {
  watched : l.self.watching ≢ [];
  within : l.left ≤ l.count;
  calls : l.self.calls + l.left ≡ l.fn.self.calls + l.count;
  harts : length (g.N.Nested.state l.nested).harts ≡ length (g.N.Nested.state l.fn.nested).harts;
  stands : Follows l.fn.self (g.N.Nested.state l.fn.nested) l.self (g.N.Nested.state l.nested) (replicate (l.count - l.left) (StepOf l.hart));
}

abbrev pub decreases-loop-left : goal.decreases-loop-left
decreases-loop-left g l = l.left
