-- A block lies in the storage, and is the next.
use Rattle.std.proofs.Common.{◌<◌, ◌∷◌, ◌++◌, [], take, ap, subst, ◌∙◌, arith}
use Rattle.hv_limits.specs.Limits.{pages_limit}
use Rattle.hv_map.specs.Apart.{blocks_of}
use Rattle.hv_map.specs.declared.chain.ChainItem.{ChainItem}
use Rattle.hv_apart.proofs.Adding.{added_more}
use Rattle.hv_map.proofs.Machines.{pinned_fits}
use Rattle.hv_apart.proofs.Growing.{item_there, blocks-push}
use Rattle.hv_apart.proofs.standing.add_blocks.Goals as goal

pub add-requires : goal.add-requires
add-requires c =
    let x = item_there c.args.chain.now c.loop-i.i c.item.result c.item.ensures in
    let fits = pinned_fits c.args.store.now c.args.chain.now c.loop-i.i x.0 c.requires x.1 in
    subst (λ (i : ChainItem). i.block < pages_limit) x.2 (omega (arith, fits.block, c.pages-pages.ensures.count, c.pages-pages.ensures.bound))

pub loop-i-preserved : goal.loop-i-preserved
loop-i-preserved c =
    let x = item_there c.args.chain.now c.loop-i.i c.item.result c.item.ensures in
    added_more _ _ _ (blocks_of (take c.loop-i.i c.args.chain.now)) (c.item.result.block ∷ []) _ c.loop-i.invariant c.add.ensures
    (blocks-push c.args.chain.now c.loop-i.i x.0 x.1 ∙ ap (λ (i : ChainItem). blocks_of (take c.loop-i.i c.args.chain.now) ++ i.block ∷ []) x.2)
