-- What is held stays right, and what is found is held from then on.
use Rattle.std.proofs.Common.{◌≡◌, ◌∙◌, ◌≤◌, false, refl, sym, ap, subst, arith}
use Rattle.hv_limits.specs.Limits.{pages_limit}
use Rattle.hv_word.specs.Storage.{page_count}
use Rattle.hv_map.specs.Gathered.{Listed}
use Rattle.hv_cache.specs.Holding.{Holding}
use Rattle.hv_cache.specs.Kept.{kept_of}
use Rattle.hv_fast.specs.Beside.{EntriesAreRight, EntryIsRight}
use Rattle.hv_fast.specs.Holds.{is_held}
use Rattle.hv_fast.proofs.Keeping.{all_kept, blocks_inside, entry_right, held_first, listed_for, not_held, some_reads, tables_inside}
use Rattle.hv_fast.proofs.translations.translate.Goals as goal

pub returns-in-Some-clause-right : goal.returns-in-Some-clause-right
returns-in-Some-clause-right g c = c.look.ensures.right c.args.store.now c.requires.right

pub returns-in-Some-clause-ticks : goal.returns-in-Some-clause-ticks
returns-in-Some-clause-ticks g c = λ items pinned. let some = some_reads items in omega (arith, some)

pub returns-then-tables-clause-right : goal.returns-then-tables-clause-right
returns-then-tables-clause-right g c = c.look.ensures.right c.args.store.now c.requires.right

pub returns-in_default-number-clause-right : goal.returns-in_default-number-clause-right
returns-in_default-number-clause-right g c =
    c.number.ensures.right c.args.store.now (c.look.ensures.right c.args.store.now c.requires.right)

pub returns-in_default-number-clause-held : goal.returns-in_default-number-clause-held
returns-in_default-number-clause-held g c =
    let none = c.number.ensures.held c.args.store.now c.args.page (c.look.ensures.right c.args.store.now c.requires.right)
    (c.look.ensures.held ∙ sym c.in_default.ensures.some) in
    not_held (is_held c.number.new.ids c.number.new.cache.entries c.args.path.now c.args.page) none

pub keep-requires-clause-blocks : goal.keep-requires-clause-blocks
keep-requires-clause-blocks g c =
    let few : page_count c.args.store.now ≤ pages_limit = omega (arith, c.pages-pages.ensures.count, c.pages-pages.ensures.bound) in
    blocks_inside c.args.store.now c.args.path.now c.in-Some-pin_noting.chain pages_limit few (sym c.in-Some-pin_noting.ensures.chain)

pub keep-requires-clause-tables : goal.keep-requires-clause-tables
keep-requires-clause-tables g c =
    let few : page_count c.args.store.now ≤ pages_limit = omega (arith, c.pages-pages.ensures.count, c.pages-pages.ensures.bound) in
    tables_inside c.args.store.now c.in-Some-pin_noting.chain c.args.page pages_limit c.resolve_noting-slot.new.tables few
    (listed_for c.args.store.now c.in-Some-pin_noting.chain c.args.page c.new-tables.result c.pin_noting.new.tables c.resolve_noting-slot.new.tables
    c.new-tables.ensures c.in-Some-pin_noting.ensures.tables c.resolve_noting-slot.ensures.tables)

pub returns-in-Ok-clause-right : goal.returns-in-Ok-clause-right
returns-in-Ok-clause-right g c =
    let S = c.args.store.now in
    let items = c.in-Some-pin_noting.chain in
    let ids = c.number.new.ids in
    let k = c.in-Some-number.number in
    let slot = c.resolve_noting-slot.result in
    let tables = c.resolve_noting-slot.new.tables in
    let listed = listed_for S items c.args.page c.new-tables.result c.pin_noting.new.tables tables
    c.new-tables.ensures c.in-Some-pin_noting.ensures.tables c.resolve_noting-slot.ensures.tables in
    let room : tables.full ≡ false = ap (λ (p : Listed). p.full) (sym c.tables.view_is) ∙ c.if-tables.false in
    subst (λ (h : Holding). EntriesAreRight S ids h.entries) (sym c.in-Ok.ensures.ok)
    (all_kept (EntryIsRight S ids) c.number.new.cache (k, c.args.page) (kept_of slot items tables.pages)
    (entry_right S ids k c.args.path.now items c.args.page slot tables c.in-Some-number.ensures.number (sym c.in-Some-pin_noting.ensures.chain)
    c.resolve_noting-slot.ensures.slot listed room)
    (c.number.ensures.right S (c.look.ensures.right S c.requires.right)))

pub returns-in-Ok-clause-held : goal.returns-in-Ok-clause-held
returns-in-Ok-clause-held g c = (
  λ e.
      ap (λ (h : Holding). is_held c.number.new.ids h.entries c.args.path.now c.args.page) c.in-Ok.ensures.ok
      ∙ held_first c.number.new.ids c.in-Some-number.number c.args.path.now c.args.page
      (kept_of c.resolve_noting-slot.result c.in-Some-pin_noting.chain c.resolve_noting-slot.new.tables.pages) c.number.new.cache
      c.in-Some-number.ensures.number,
  λ e. refl,
)

pub returns-in-Err-clause-right : goal.returns-in-Err-clause-right
returns-in-Err-clause-right g c =
    subst (λ (h : Holding). EntriesAreRight c.args.store.now c.number.new.ids h.entries) (sym c.in-Err.ensures.err)
    (c.number.ensures.right c.args.store.now (c.look.ensures.right c.args.store.now c.requires.right))

pub returns-in-Err-clause-held : goal.returns-in-Err-clause-held
returns-in-Err-clause-held g c =
    let none = c.number.ensures.held c.args.store.now c.args.page (c.look.ensures.right c.args.store.now c.requires.right)
    (c.look.ensures.held ∙ sym c.in_default.ensures.some) in
    let none_now = ap (λ (h : Holding). is_held c.number.new.ids h.entries c.args.path.now c.args.page) c.in-Err.ensures.err ∙ none in
    not_held (is_held c.number.new.ids c.keep.new.self.entries c.args.path.now c.args.page) none_now
