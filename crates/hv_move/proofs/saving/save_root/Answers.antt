use Rattle.std.proofs.Common.{◌≡◌, ◌*◌, ◌∙◌, Some, length, map, refl, sym, subst, arith}
use Rattle.hv_word.specs.Storage.{page_count}
use Rattle.hv_map.specs.Chain.{machines, pin_of}
use Rattle.hv_map.specs.Links.{syllable_of}
use Rattle.hv_nest.specs.Kinds.{NextBelow}
use Rattle.hv_move.proofs.Copying.{root_copy, root_pages}
use Rattle.hv_move.proofs.saving.save_root.Goals as goal

pub seen-requires-clause-pinned : goal.seen-requires-clause-pinned
unfolding pin_of machines
seen-requires-clause-pinned c = subst (λ items. pin_of c.args.store.now (map syllable_of items) ≡ Some items) (sym c.new.ensures) refl

pub seen-requires-clause-pages : goal.seen-requires-clause-pages
seen-requires-clause-pages c =
    omega (arith, root_pages c.args.store.now c.new.result c.new.ensures, c.pages-pages.ensures.count, c.pages-pages.ensures.bound)

pub parked-requires : goal.parked-requires
parked-requires c =
    let S = c.args.store.now in
    let whole : length S ≡ 1024 * page_count S = omega (arith, c.pages-pages.ensures.words, c.pages-pages.ensures.count) in
    let same = root_copy S c.in_ok-copy.copy c.new.result c.new.ensures whole c.in_ok-copy.ensures in
    subst (λ T. NextBelow (page_count T) c.args.cpu.now) (sym same) c.requires.next

pub returns-clause-storage : goal.returns-clause-storage
returns-clause-storage c =
    let S = c.args.store.now in
    let whole : length S ≡ 1024 * page_count S = omega (arith, c.pages-pages.ensures.words, c.pages-pages.ensures.count) in
    c.parked.ensures.storage ∙ root_copy S c.in_ok-copy.copy c.new.result c.new.ensures whole c.in_ok-copy.ensures
