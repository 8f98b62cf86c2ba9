use Rattle.std.proofs.Common.{◌≡◌, take, drop}
use Rattle.hv_run.specs.Play.{Stepped, all_after}
use Rattle.hv_run.proofs.moving.step_all.Given as goal

abbrev pub invariant-loop-i : goal.invariant-loop-i
invariant-loop-i g l = record {
  told : take l.i l.watched ≡ all_after (Stepped l.hart l.running.path l.outcome.kind l.outcome.changed) (g.N.Nested.state l.nested) (take l.i l.initial.watched);
  rest : drop l.i l.watched ≡ drop l.i l.initial.watched;
}
