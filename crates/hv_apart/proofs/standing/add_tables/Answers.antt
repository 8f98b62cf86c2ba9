-- The tables of the next machine.
use Rattle.std.proofs.Common.{◌≤◌, ◌++◌, length, take, subst}
use Rattle.hv_word.specs.Storage.{page_count}
use Rattle.hv_store.specs.Access.{identity}
use Rattle.hv_map.specs.Apart.{directory_of, tables_along, tables_of}
use Rattle.hv_map.specs.Chain.{map_along}
use Rattle.hv_map.specs.declared.chain.ChainItem.{ChainItem}
use Rattle.hv_apart.specs.Table.{item_of_chain}
use Rattle.hv_apart.proofs.Adding.{added_none, added_more}
use Rattle.hv_map.proofs.Machines.{pinned_fits}
use Rattle.hv_apart.proofs.Growing.{item_there, tables_along-more}
use Rattle.hv_apart.proofs.standing.add_tables.Goals as goal

pub loop-level-init : goal.loop-level-init
unfolding tables_along
loop-level-init c = added_none c.args.marks.now

pub add_tables_of-requires : goal.add_tables_of-requires
add_tables_of-requires c =
    let x = item_there c.args.chain.now c.loop-level.level c.item.result c.item.ensures in
    let fits = pinned_fits c.args.store.now c.args.chain.now c.loop-level.level x.0 c.requires x.1 in
    subst (λ (i : ChainItem). i.pages ≤ 1048576) x.2 fits.pages

pub loop-level-preserved : goal.loop-level-preserved
loop-level-preserved c =
    let S = c.args.store.now in
    let parent = c.prefix-parent.result in
    let x = item_there c.args.chain.now c.loop-level.level c.item.result c.item.ensures in
    let m = item_of_chain c.item.result in
    added_more _ _ _ (tables_along S (identity (page_count S)) 0 (take c.loop-level.level c.args.chain.now)) (directory_of (map_along S parent) m ++ tables_of S (map_along S parent) (length parent) m) _ c.loop-level.invariant c.add_tables_of.ensures
    (tables_along-more S c.args.chain.now parent c.loop-level.level x.0 c.item.result x.1 x.2 c.prefix-parent.ensures)
