use Rattle.std.proofs.Common.{sym, ap}
use Rattle.hv_block.specs.Block.{Contents}
use Rattle.hv_block.specs.Contents.{contents_of}
use Rattle.hv_block.proofs.Blocks.{block_holds}
use Rattle.hv_top.proofs.check.parked.Goals as goal

pub returns-clause-registers : goal.returns-clause-registers
returns-clause-registers c =
    let holds = block_holds c.args.store.now c.args.page (contents_of c.in-Some.block) (sym c.in-Some.ensures.block) in
    sym (ap (λ (contents : Contents). contents.regs) holds.1)
