-- The page is one of the machine at the end of the pin, so what is held of it can be put at hand.
use Rattle.std.proofs.Common.{◌≡◌, ◌<◌, ℕ, List, true, Some, length, refl, ap, ◌∙◌, sym, subst, arith, slice_get}
use Rattle.std.proofs.lemmas.Option.{same_Some, slice_get_read}
use Rattle.hv_store.specs.declared.access.Slot.{Slot}
use Rattle.hv_store.specs.declared.access.Way.TheVariants.{Open}
use Rattle.hv_store.specs.Access.{way_for}
use Rattle.hv_map.specs.Chain.{map_along, pin_of}
use Rattle.hv_map.specs.Held.{Lists}
use Rattle.hv_cache.specs.Holding.{Holding, same}
use Rattle.hv_fast.specs.declared.pin.Pin.{Pin}
use Rattle.hv_fast.specs.Beside.{EntriesAreRight, EntryIsRight}
use Rattle.hv_fast.specs.Marked.{listed}
use Rattle.hv_fast.proofs.Filling.{held_of_pin, no_less, own_pin, ready_filled, right_filled, right_held, some_path}
use Rattle.hv_fast.proofs.Keeping.{all_promoted, finds_held}
use Rattle.hv_fast.proofs.beside.Beside.fill.Goals as goal

pub hold-requires-clause-path : goal.hold-requires-clause-path
hold-requires-clause-path c =
    let p : Pin = c.index-pin.result.now in
    let pins = c.args.self.now.pins.items in
    let there : slice_get pins c.args.hart ≡ Some p = slice_get_read pins (length pins) c.args.hart p refl c.requires.hart c.index-pin.ensures in
    let ready = c.requires.right.3.pins c.args.hart c.requires.right.1 p c.requires.right.2 there c.if-not-pin.false in
    λ empty. some_path p.chain p.block ready.ends (sym (c.copied-path.ensures ∙ ready.path) ∙ empty)

pub hold-requires-clause-page : goal.hold-requires-clause-page
hold-requires-clause-page c =
    let p : Pin = c.index-pin.result.now in
    let pins = c.args.self.now.pins.items in
    let there : slice_get pins c.args.hart ≡ Some p = slice_get_read pins (length pins) c.args.hart p refl c.requires.hart c.index-pin.ensures in
    let ready = c.requires.right.3.pins c.args.hart c.requires.right.1 p c.requires.right.2 there c.if-not-pin.false in
    let inside : c.args.miss.page < length (map_along c.args.store.now p.chain) = omega (arith, c.if-miss-pages.false, c.pages.ensures.pages) in
    (p.chain, ap (pin_of c.args.store.now) (c.copied-path.ensures ∙ ready.path) ∙ own_pin c.args.store.now c.requires.right.1 c.args.self.now.marks p ready, inside)

pub returns-in_default-entry-clause-right : goal.returns-in_default-entry-clause-right
returns-in_default-entry-clause-right c = λ R r at right.
    right_held c.args.store.now R c.args.self.now _ (no_less c.args.self.now.marks) refl refl refl
    (subst (λ (h : Holding). EntriesAreRight c.args.store.now c.hold.new.ids h.entries) (sym c.entry.follows.holds-at-none)
    (all_promoted (EntryIsRight c.args.store.now c.hold.new.ids) (same (c.in-Some.number, c.args.miss.page)) c.hold.new.cache.entries c.hold.ensures.right))
    right

pub returns-in_default-opened-clause-right : goal.returns-in_default-opened-clause-right
returns-in_default-opened-clause-right c = λ R r at right.
    right_held c.args.store.now R c.args.self.now _ (no_less c.args.self.now.marks) refl refl refl
    (subst (λ (h : Holding). EntriesAreRight c.args.store.now c.hold.new.ids h.entries) (sym c.entry.follows.holds-at-none)
    (all_promoted (EntryIsRight c.args.store.now c.hold.new.ids) (same (c.in-Some.number, c.args.miss.page)) c.hold.new.cache.entries c.hold.ensures.right))
    right

pub returns-then-not-mark_all-clause-right : goal.returns-then-not-mark_all-clause-right
returns-then-not-mark_all-clause-right c = λ R r at right.
    right_held c.args.store.now R c.args.self.now _ c.mark_all.ensures.more refl refl refl
    (subst (λ (h : Holding). EntriesAreRight c.args.store.now c.hold.new.ids h.entries) (sym c.entry.follows.holds-at-none)
    (all_promoted (EntryIsRight c.args.store.now c.hold.new.ids) (same (c.in-Some.number, c.args.miss.page)) c.hold.new.cache.entries c.hold.ensures.right))
    right

pub returns-clause-right : goal.returns-clause-right
returns-clause-right c = λ R r at right.
    let S = c.args.store.now in
    let b = c.args.self.now in
    let pins = b.pins.items in
    let hart = c.args.hart in
    let page = c.args.miss.page in
    let old : Pin = c.index-pin.result.now in
    let p : Pin = c.index_mut.result.now in
    let kept = c.in-Some-entry.kept.now in
    let there_old : slice_get pins hart ≡ Some old = slice_get_read pins (length pins) hart old refl c.requires.hart c.index-pin.ensures in
    let there : slice_get pins hart ≡ Some p = slice_get_read pins (length pins) hart p refl c.requires.hart c.index_mut.ensures.value in
    let is : old ≡ p = same_Some old p (sym there_old ∙ there) in
    let live : p.live ≡ true = ap (λ (q : Pin). q.live) (sym is) ∙ c.if-not-pin.false in
    let ready = right.pins hart r p at there live in
    let path = c.copied-path.ensures ∙ ap (λ (q : Pin). q.path) is ∙ ready.path in
    let found = finds_held S c.hold.new.ids c.hold.new.cache.entries c.in-Some.number c.copied-path.result page kept c.in-Some.ensures.found c.hold.ensures.right
    (sym c.in-Some-entry.ensures.found) in
    let lists = subst (λ (gs : List ℕ). Lists (listed c.mark_all.new.self.tables) gs) c.tables.ensures (c.if-not-mark_all.ensures.tables refl) in
    let held = held_of_pin S r b.marks c.mark_all.new.self p c.copied-path.result page kept ready path found lists in
    let opens : way_for kept.slot c.args.miss.access ≡ Open c.in-Some-opened.host =
    ap (λ (s : Slot). way_for s c.args.miss.access) (sym c.slot.ensures) ∙ c.in-Some-opened.ensures in
    right_filled S R b _ hart r p (record p { memo = c.set.new.self }) c.mark_all.ensures.more refl refl refl
    (subst (λ (h : Holding). EntriesAreRight S c.hold.new.ids h.entries) (sym c.entry.follows.holds-at-none)
    (all_promoted (EntryIsRight S c.hold.new.ids) (same (c.in-Some.number, page)) c.hold.new.cache.entries c.hold.ensures.right))
    at there refl refl
    (ready_filled S r b.marks c.mark_all.new.self p c.set.new.self c.mark_all.ensures.more ready
    (λ before. c.set.ensures.right S p.chain c.mark_all.new.self.tables kept.slot before held opens))
    right
