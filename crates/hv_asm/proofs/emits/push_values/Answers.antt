use Rattle.std.proofs.Common.{sym}
use Rattle.std.proofs.lemmas.Result.{err_from_is_err_and}
use Rattle.hv_asm.specs.Labels.{place_in}
use Rattle.hv_asm.proofs.Pushing.{values_more, values_stop, values_end}
use Rattle.hv_asm.proofs.emits.push_values.Goals as goal

pub returns-in_err-word : goal.returns-in_err-word
returns-in_err-word c =
    let p = err_from_is_err_and c.from_residual.result c.from_residual.ensures.1 in rw (p.1, p.2)
    (values_stop (place_in c.args.labels.now) c.args.line.now c.args.operands.now c.loop-operand.operand-index _ _ c.loop-operand.out.items c.args.out.now.items c.loop-operand-test.true (sym c.in_err-word.ensures) c.loop-operand.invariant)

pub loop-operand-preserved : goal.loop-operand-preserved
loop-operand-preserved c =
    values_more (place_in c.args.labels.now) c.args.line.now c.args.operands.now c.loop-operand.operand-index _ c.in_ok-word.word c.loop-operand.out.items _ _ c.loop-operand-test.true (sym c.in_ok-word.ensures) c.in_ok-push.ensures.items c.loop-operand.invariant

pub returns : goal.returns
returns c =
    values_end (place_in c.args.labels.now) c.args.line.now c.args.operands.now c.loop-operand.operand-index c.loop-operand.out.items c.args.out.now.items c.loop-operand-test.false c.loop-operand.invariant
