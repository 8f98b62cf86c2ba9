use Rattle.std.proofs.Common.{◌-◌, take, sym, arith}
use Rattle.hv_trace.specs.TextFronts.{next_place}
use Rattle.hv_trace.proofs.Changes.{front_more, next_is, too_early}
use Rattle.hv_trace.proofs.text_rows.read_changes.Goals as goal

pub returns-then-change-least-clause-stops : goal.returns-then-change-least-clause-stops
returns-then-change-least-clause-stops c =
    too_early c.loop-len.rest.now c.in-Some.behind.now (8 - c.loop-len.len) (next_place 0 (take c.loop-len.len c.loop-len.regs))
    c.in-Some.change c.in-Some.ensures.0 c.in-Some.ensures.1 (omega (arith, c.if-change-least.true, c.loop-len.invariant.1))

pub loop-len-preserved : goal.loop-len-preserved
loop-len-preserved c = (
  front_more c.args.text.now c.loop-len.rest.now c.in-Some.behind.now c.loop-len.regs c.loop-len.len c.in-Some.change
      c.loop-len.invariant.0 c.loop-len-test.true c.in-Some.ensures.0
      (omega (arith, c.if-change-least.false, c.loop-len.invariant.1)) c.in-Some.ensures.1,
  sym (next_is c.loop-len.regs c.loop-len.len c.in-Some.change c.loop-len-test.true c.loop-len.invariant.0.size),
)
