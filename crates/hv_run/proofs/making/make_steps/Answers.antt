use Rattle.std.proofs.Common.{◌≡◌, ℕ, arith, refl, replicate, subst, ◌∙◌}
use Rattle.hv_nest.specs.Move.{StepOf, running_of}
use Rattle.hv_run.specs.Play.{counted_played}
use Rattle.hv_run.specs.Stands.{Follows}
use Rattle.hv_run.proofs.Counted.{counted_none, counted_more, kept_status, refused_more, together_all}
use Rattle.hv_run.proofs.making.make_steps.Goals as goal

pub loop-i-init : goal.loop-i-init
loop-i-init g c = record {
  harts = refl;
  path = c.requires.path;
  once = λ some none. refl;
  within = λ n all. (omega (arith, all.0), omega (arith, all.1), omega (arith, all.2));
  stands = λ p is counts. counted_none p c.args.hart c.args.counts.now (g.N.Nested.state c.args.nested.now) is;
}

pub returns-then-is_apart-clause-stands : goal.returns-then-is_apart-clause-stands
returns-then-is_apart-clause-stands g c = λ p is counts.
    let st = g.N.Nested.state c.loop-i.nested in
    let next = g.N.Nested.state c.step_into.new.self in
    let kind = c.step_into.new.outcome.kind in
    let some = (c.if-is_apart.ensures.yes refl).0 in
    refused_more p c.args.hart c.loop-i.i c.loop-i.counts c.tell.new.self (g.N.Nested.state c.args.nested.now) st next c.args.path.now kind c.step_into.new.outcome.changed (c.loop-i.invariant.path some)
    (kept_status c.args.together.working c.loop-i.i c.args.hart st next kind p.watching c.step_into.ensures.moves c.step_into.ensures.next (c.if-is_apart.ensures.yes refl).1 (c.loop-i.invariant.once some))
    c.step_into.ensures.moves c.step_into.ensures.changed c.step_into.ensures.len c.step_into.ensures.next c.tell.ensures.counts (c.loop-i.invariant.stands p is counts)

pub returns-then-has_left-clause-stands : goal.returns-then-has_left-clause-stands
returns-then-has_left-clause-stands g c = λ p is counts.
    let st = g.N.Nested.state c.loop-i.nested in
    counted_more p c.args.hart c.loop-i.i c.loop-i.counts c.tell.new.self (g.N.Nested.state c.args.nested.now) st (g.N.Nested.state c.step_into.new.self) (running_of st c.args.hart) c.step_into.new.outcome.kind c.step_into.new.outcome.changed refl
    (together_all c.args.together c.args.hart c.args.path.now (running_of st c.args.hart) _ p.watching counts c.loop-i.invariant.path (c.if-is_apart.ensures.all refl) (c.if-is_apart.ensures.works refl))
    c.step_into.ensures.moves c.step_into.ensures.changed c.step_into.ensures.len c.step_into.ensures.next c.tell.ensures.counts (c.loop-i.invariant.stands p is counts)

pub loop-i-preserved : goal.loop-i-preserved
loop-i-preserved g c = record {
  harts = c.step_into.ensures.harts ∙ c.loop-i.invariant.harts;
  path = c.if-has_left.ensures.no refl;
  once = λ some none. let works = c.if-is_apart.ensures.all refl some in cc;
  within = λ n all.
      let now = c.loop-i.invariant.within n all in
      (omega (arith, now.0, c.tell.ensures.steps), omega (arith, now.1, c.tell.ensures.faults), omega (arith, now.2, c.tell.ensures.recalls));
  stands = λ p is counts.
      let st = g.N.Nested.state c.loop-i.nested in
      counted_more p c.args.hart c.loop-i.i c.loop-i.counts c.tell.new.self (g.N.Nested.state c.args.nested.now) st (g.N.Nested.state c.step_into.new.self) (running_of st c.args.hart) c.step_into.new.outcome.kind c.step_into.new.outcome.changed refl
      (together_all c.args.together c.args.hart c.args.path.now (running_of st c.args.hart) _ p.watching counts c.loop-i.invariant.path (c.if-is_apart.ensures.all refl) (c.if-is_apart.ensures.works refl))
      c.step_into.ensures.moves c.step_into.ensures.changed c.step_into.ensures.len c.step_into.ensures.next c.tell.ensures.counts (c.loop-i.invariant.stands p is counts);
}

pub returns-clause-stands : goal.returns-clause-stands
returns-clause-stands g c = λ p is counts.
    let st = g.N.Nested.state c.loop-i.nested in
    let end : c.loop-i.i ≡ c.args.most = omega (arith, c.loop-i-test.false, c.loop-i.auto.i-end) in
    subst (λ (n : ℕ). Follows p (g.N.Nested.state c.args.nested.now) (counted_played n c.loop-i.counts st p) st (replicate n (StepOf c.args.hart))) end
    (c.loop-i.invariant.stands p is counts)
