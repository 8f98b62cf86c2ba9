use Rattle.hv_asm.proofs.Pushing.{zeros_more}
use Rattle.hv_asm.proofs.emits.push_zeros.Goals as goal

pub loop-preserved : goal.loop-preserved
loop-preserved c = zeros_more c.loop.counter _ _ _ c.loop.invariant c.in_ok-push.ensures.items
