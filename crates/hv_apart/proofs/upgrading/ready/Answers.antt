-- The last machine of the chain, and what is planned for it.
use Rattle.std.proofs.Common.{◌+◌, ◌<◌, ◌≤◌, List, subst, sym, ◌∙◌, arith}
use Rattle.std.specs.Prelude.{nat_le, nat_lt, slice_index}
use Rattle.std.proofs.lemmas.Bool.{ltb-false, or_parts}
use Rattle.hv_word.specs.Storage.{page_count}
use Rattle.hv_store.specs.declared.access.Slot.{Slot}
use Rattle.hv_map.specs.Apart.{table_pages}
use Rattle.hv_map.specs.declared.chain.ChainItem.{ChainItem}
use Rattle.hv_apart.specs.Plan.{IsPlanOf}
use Rattle.hv_apart.proofs.Plans.{last_found, parent_found}
use Rattle.hv_apart.proofs.Upgraded.{written_below}
use Rattle.hv_apart.proofs.upgrading.ready.Goals as goal

pub leaves_parent-requires : goal.leaves_parent-requires
leaves_parent-requires c =
    let l = last_found c.args.store.now c.args.chain.now c.len-level.result c.item-child.result c.requires.pinned c.len-level.ensures.len c.item-child.ensures in
    subst (λ (i : ChainItem). i.pages ≤ 1048576) l.said l.fits.pages

pub find-requires-clause-pages : goal.find-requires-clause-pages
find-requires-clause-pages c =
    let l = last_found c.args.store.now c.args.chain.now c.len-level.result c.item-child.result c.requires.pinned c.len-level.ensures.len c.item-child.ensures in
    subst (λ (i : ChainItem). i.pages ≤ 1048576) l.said l.fits.pages

pub returns-clause-plan : goal.returns-clause-plan
returns-clause-plan c =
    let S = c.args.store.now in
    let items = c.args.chain.now in
    let dir = c.args.dir in
    let p = c.in_ok-plan.plan in
    let m = c.pages.result in
    let child = c.item-child.result in
    let l = last_found S items c.len-level.result child c.requires.pinned c.len-level.ensures.len c.item-child.ensures in
    let found = c.in_ok-plan.ensures.plan in
    let said = l.said ∙ sym c.in_ok-plan.ensures.child in
    let inside = or_parts (nat_le m dir) (nat_lt m (child.table + table_pages child.pages)) (sym c.if-leaves_parent.ensures) in
    let names : child.table + table_pages child.pages ≤ 1048576 = omega (arith, ltb-false m (child.table + table_pages child.pages) inside.1, c.pages.ensures.bound) in
    record {
      item = l.item;
      last = l.last;
      said = said;
      plan = subst (λ (F : List Slot). IsPlanOf F dir p) (parent_found S items c.prefix-parent.result c.len-level.result c.len-level.ensures.len c.prefix-parent.ensures) found;
      fits = record {
        block = subst (λ (i : ChainItem). i.block < page_count S) said l.fits.block;
        directory = written_below S c.prefix-parent.result dir p.directory found.directory;
        tables = λ k lt. written_below S c.prefix-parent.result (p.child.table + k) (slice_index p.tables k) (found.tables k lt);
        pages = subst (λ (i : ChainItem). i.pages ≤ 1048576) said l.fits.pages;
        names = subst (λ (i : ChainItem). i.table + table_pages i.pages ≤ 1048576) (sym c.in_ok-plan.ensures.child) names;
      };
    }
