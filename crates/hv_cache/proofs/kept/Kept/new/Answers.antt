-- The block of each machine is added in turn.
use Rattle.hv_cache.proofs.Occurring.{blocks_more}
use Rattle.hv_cache.proofs.kept.Kept.new.Goals as goal

pub loop-i-preserved : goal.loop-i-preserved
loop-i-preserved c =
    let more = blocks_more c.args.chain.now c.loop-i.i c.item.result c.item.ensures in cc (more, c.in_ok-push.ensures.items)
