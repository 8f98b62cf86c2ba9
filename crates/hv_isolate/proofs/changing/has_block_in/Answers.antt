-- The block of the next machine.
use Rattle.std.proofs.Common.{Bool, ◌||◌, ap, sym, ◌∙◌}
use Rattle.hv_map.specs.declared.chain.ChainItem.{ChainItem}
use Rattle.hv_apart.specs.Marked.{is_marked}
use Rattle.hv_apart.proofs.Growing.{item_there}
use Rattle.hv_isolate.proofs.Meeting.{block-more}
use Rattle.hv_isolate.proofs.changing.has_block_in.Goals as goal

pub loop-level-preserved : goal.loop-level-preserved
loop-level-preserved c =
    let p = is_marked c.args.marks.now.words in
    let x = item_there c.args.chain.now c.loop-level.level c.item.result c.item.ensures in
    ap (λ (b : Bool). c.loop-level.found || b) (c.has-found.ensures ∙ ap (λ (i : ChainItem). p i.block) (sym x.2))
    ∙ block-more p c.args.chain.now c.loop-level.level x.0 c.loop-level.found x.1 c.loop-level.invariant
