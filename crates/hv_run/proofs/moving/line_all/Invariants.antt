use Rattle.std.proofs.Common.{◌≡◌, take, drop}
use Rattle.hv_run.specs.Play.{Lined, all_after}
use Rattle.hv_run.proofs.moving.line_all.Given as goal

abbrev pub invariant-loop-one : goal.invariant-loop-one
invariant-loop-one g l = record {
  told : take l.one-index l.watched ≡ all_after Lined (g.N.Nested.state l.nested) (take l.one-index l.initial.watched);
  rest : drop l.one-index l.watched ≡ drop l.one-index l.initial.watched;
}
