use Rattle.std.proofs.Common.{◌-◌, arith, ◌∙◌}
use Rattle.hv_nest.specs.Move.{StepOf}
use Rattle.hv_run.proofs.Counted.{turned_more}
use Rattle.hv_run.proofs.moving.Play.told_turns.Goals as goal

pub loop-left-preserved : goal.loop-left-preserved
loop-left-preserved g c = record {
  watched = c.some_turns-left.ensures.watched;
  within = omega (arith, c.loop-left.invariant.within);
  calls = omega (arith, c.loop-left.invariant.calls, c.some_turns-left.ensures.calls, c.some_turns-left.ensures.most);
  harts = c.some_turns-left.ensures.harts ∙ c.loop-left.invariant.harts;
  stands =
      turned_more c.args.self.now c.loop-left.self c.some_turns-left.new.self (g.N.Nested.state c.args.nested.now) (g.N.Nested.state c.loop-left.nested) (g.N.Nested.state c.some_turns-left.new.nested) (c.args.count - c.loop-left.left) c.some_turns-left.result (c.args.count - (c.loop-left.left - c.some_turns-left.result)) (StepOf c.args.hart)
      (omega (arith, c.loop-left.invariant.within, c.some_turns-left.ensures.most))
      c.loop-left.invariant.stands c.some_turns-left.ensures.stands;
}
