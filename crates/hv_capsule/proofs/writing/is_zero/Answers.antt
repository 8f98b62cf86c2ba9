use Rattle.std.proofs.Common.{sym, ◌∙◌}
use Rattle.hv_capsule.proofs.Written.{zero_next}
use Rattle.hv_capsule.proofs.writing.is_zero.Goals as goal

pub loop-word-preserved : goal.loop-word-preserved
loop-word-preserved c =
    sym (zero_next c.args.words.now c.loop-word.word-index c.loop-word-test.true c.if-word-ne0.false) ∙ c.loop-word.invariant
