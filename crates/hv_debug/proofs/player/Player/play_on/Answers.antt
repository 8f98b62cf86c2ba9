use Rattle.std.proofs.Common.{◌+◌, ◌-◌, length, sym, ◌∙◌, subst, arith}
use Rattle.hv_nest.specs.State.{State}
use Rattle.hv_debug.specs.Reaching.{CanGo, moves_left}
use Rattle.hv_debug.proofs.Reaches.{halts_at_break, halts_at_end, halts_done, hart_there, nears_more}
use Rattle.hv_debug.proofs.player.Player.play_on.Goals as goal

pub returns-in_default-clause-halts : goal.returns-in_default-clause-halts
returns-in_default-clause-halts g c =
    halts_at_end c.args.breaks.now c.loop-step.first (c.args.count - c.loop-step._step) (c.args.count - (c.loop-step._step + 1)) c.args.count c.args.self.now c.loop-step.self (g.N.Nested.state c.args.nested.now) (g.N.Nested.state c.loop-step.nested) c.loop-step.invariant.nears (omega arith) (sym c.in_default.is ∙ c.next_hart.ensures)

pub is_stopped-requires : goal.is_stopped-requires
is_stopped-requires g c =
    hart_there (length (g.N.Nested.state c.loop-step.nested).harts) (moves_left c.loop-step.self.cursor) c.in-Some.hart c.loop-step.invariant.can.moves (sym c.in-Some.ensures)

pub returns-then-is_stopped-clause-halts : goal.returns-then-is_stopped-clause-halts
returns-then-is_stopped-clause-halts g c =
    halts_at_break c.args.breaks.now c.loop-step.first (c.args.count - c.loop-step._step) (c.args.count - (c.loop-step._step + 1)) c.args.count c.in-Some.hart c.args.self.now c.loop-step.self (g.N.Nested.state c.args.nested.now) (g.N.Nested.state c.loop-step.nested) (g.N.Nested.state c.is_stopped.new.nested) c.loop-step.invariant.nears c.is_stopped.ensures.same (omega arith) c.in-Some.ensures (sym c.is_stopped.ensures.stopped ∙ c.if-is_stopped.true)

pub advance-requires : goal.advance-requires
advance-requires g c =
    subst (λ (st : State). CanGo (length st.harts) c.loop-step.self) (sym c.is_stopped.ensures.same) c.loop-step.invariant.can

pub loop-step-preserved : goal.loop-step-preserved
loop-step-preserved g c = record {
  can = c.advance.ensures.can;
  nears = nears_more c.args.breaks.now c.loop-step.first (c.args.count - c.loop-step._step) (c.args.count - (c.loop-step._step + 1)) c.args.count c.in-Some.hart c.args.self.now c.loop-step.self c.advance.new.self (g.N.Nested.state c.args.nested.now) (g.N.Nested.state c.loop-step.nested) (g.N.Nested.state c.is_stopped.new.nested) (g.N.Nested.state c.advance.new.nested) c.loop-step.invariant.nears c.is_stopped.ensures.same c.advance.ensures.advances (omega arith) c.in-Some.ensures (sym c.is_stopped.ensures.stopped ∙ c.if-is_stopped.false);
}

pub returns-clause-halts : goal.returns-clause-halts
returns-clause-halts g c =
    halts_done c.args.breaks.now c.loop-step.first (c.args.count - c.loop-step._step) c.args.count c.args.self.now c.loop-step.self (g.N.Nested.state c.args.nested.now) (g.N.Nested.state c.loop-step.nested) c.loop-step.invariant.nears (omega arith)
