use Rattle.std.proofs.Common.{◌≡◌, ℕ, ◌+◌, ◌∷◌, length, refl, ap, sym, ◌∙◌, subst, arith}
use Rattle.hv_nest.specs.Move.{StepOf, LinesOf}
use Rattle.hv_debug.specs.declared.cursor.Next.{Next}
use Rattle.hv_debug.specs.declared.player.Player.{Player}
use Rattle.hv_debug.specs.Reaching.{CanGo, move_of, moves_left}
use Rattle.hv_debug.proofs.Reaches.{advanced, ended, go_on, nears_on}
use Rattle.hv_debug.proofs.player.Player.advance.Goals as goal

pub loop-next-preserved : goal.loop-next-preserved
loop-next-preserved g c =
    let first = g.N.Nested.state c.args.nested.now in
    let here = g.N.Nested.state c.loop-next.nested in
    let there = g.N.Nested.state c.lines.new.nested in
    let p = c.loop-next.self in
    let q : Player = record { play = c.lines.new.self; cursor = c.pop.new.self; steps = c.loop-next.self.steps } in
    let takes : moves_left p.cursor ≡ LinesOf c.in-Lines.hart c.in-Lines.mask ∷ moves_left q.cursor =
    c.in-Some.ensures ∙ ap (λ (x : Next). move_of x ∷ moves_left q.cursor) c.in-Lines.is in
    record {
      can = subst (λ (n : ℕ). CanGo n q) (sym c.lines.ensures.harts) (go_on (length here.harts) p q (LinesOf c.in-Lines.hart c.in-Lines.mask) c.loop-next.invariant.can takes c.lines.ensures.calls (omega arith));
      nears = nears_on c.args.self.now p q first here there c.in-Lines.hart c.in-Lines.mask c.loop-next.invariant.nears takes c.lines.ensures.stands refl;
    }

pub returns-in-Step-clause-can : goal.returns-in-Step-clause-can
returns-in-Step-clause-can g c =
    let here = g.N.Nested.state c.loop-next.nested in
    let p = c.loop-next.self in
    let q : Player = record { play = c.turn.new.self; cursor = c.pop.new.self; steps = c.loop-next.self.steps + 1 } in
    let takes : moves_left p.cursor ≡ StepOf c.in-Step.hart ∷ moves_left q.cursor =
    c.in-Some.ensures ∙ ap (λ (x : Next). move_of x ∷ moves_left q.cursor) c.in-Step.is in
    subst (λ (n : ℕ). CanGo n q) (sym c.turn.ensures.harts) (go_on (length here.harts) p q (StepOf c.in-Step.hart) c.loop-next.invariant.can takes c.turn.ensures.calls (omega arith))

pub returns-in-Step-clause-advances : goal.returns-in-Step-clause-advances
returns-in-Step-clause-advances g c =
    let first = g.N.Nested.state c.args.nested.now in
    let here = g.N.Nested.state c.loop-next.nested in
    let there = g.N.Nested.state c.turn.new.nested in
    let p = c.loop-next.self in
    let q : Player = record { play = c.turn.new.self; cursor = c.pop.new.self; steps = c.loop-next.self.steps + 1 } in
    let takes : moves_left p.cursor ≡ StepOf c.in-Step.hart ∷ moves_left q.cursor =
    c.in-Some.ensures ∙ ap (λ (x : Next). move_of x ∷ moves_left q.cursor) c.in-Step.is in
    advanced c.args.self.now p q first here there c.in-Step.hart c.loop-next.invariant.nears takes c.turn.ensures.stands refl

pub returns-clause-advances : goal.returns-clause-advances
returns-clause-advances g c =
    ended c.args.self.now c.loop-next.self (g.N.Nested.state c.args.nested.now) (g.N.Nested.state c.loop-next.nested) c.pop.new.self c.loop-next.invariant.nears c.in_default.ensures.0 c.in_default.ensures.1
