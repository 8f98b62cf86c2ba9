-- The words of the next machine.
use Rattle.std.proofs.Common.{◌<◌, ◌≤◌, length, take, subst}
use Rattle.hv_word.specs.Storage.{page_count}
use Rattle.hv_store.specs.Access.{identity}
use Rattle.hv_map.specs.Chain.{map_along}
use Rattle.hv_map.specs.declared.chain.ChainItem.{ChainItem}
use Rattle.hv_nest.specs.Watched.{chain_foot, item_foot}
use Rattle.hv_apart.specs.Table.{item_of_chain}
use Rattle.hv_apart.proofs.Joining.{joined_none, joined_more}
use Rattle.hv_map.proofs.Machines.{pinned_fits}
use Rattle.hv_apart.proofs.Growing.{item_there}
use Rattle.hv_apart.proofs.Feet.{chain_foot-more}
use Rattle.hv_apart.proofs.foot.put_items.Goals as goal

pub loop-level-init : goal.loop-level-init
unfolding chain_foot
loop-level-init c = joined_none c.args.words.now

pub put_item-requires-clause-block : goal.put_item-requires-clause-block
put_item-requires-clause-block c =
    let x = item_there c.args.chain.now c.loop-level.level c.item.result c.item.ensures in
    let fits = pinned_fits c.args.store.now c.args.chain.now c.loop-level.level x.0 c.requires.pinned x.1 in
    subst (λ (i : ChainItem). i.block < page_count c.args.store.now) x.2 fits.block

pub put_item-requires-clause-pages : goal.put_item-requires-clause-pages
put_item-requires-clause-pages c =
    let x = item_there c.args.chain.now c.loop-level.level c.item.result c.item.ensures in
    let fits = pinned_fits c.args.store.now c.args.chain.now c.loop-level.level x.0 c.requires.pinned x.1 in
    subst (λ (i : ChainItem). i.pages ≤ 1048576) x.2 fits.pages

pub loop-level-preserved : goal.loop-level-preserved
loop-level-preserved c =
    let S = c.args.store.now in
    let parent = c.prefix-parent.result in
    let x = item_there c.args.chain.now c.loop-level.level c.item.result c.item.ensures in
    joined_more _ _ _ (chain_foot S (identity (page_count S)) 0 (take c.loop-level.level c.args.chain.now)) (item_foot S (map_along S parent) (length parent) (item_of_chain c.item.result)) _ c.loop-level.invariant c.put_item.ensures
    (chain_foot-more S c.args.chain.now parent c.loop-level.level x.0 c.item.result x.1 x.2 c.prefix-parent.ensures)
