-- A memo that is right finds pages where the map opens them.
use Rattle.std.proofs.Common.{◌≡◌, ◌≢◌, ℕ, ◌+◌, ◌-◌, ◌<◌, true, false, List, [], ◌∷◌, Ok, length, refl, ap, ◌∙◌, sym, subst, arith, slice_get}
use Rattle.std.specs.Prelude.{Option, None, Some}
use Rattle.std.proofs.lemmas.Bool.{eqb-true, eq-eqb}
use Rattle.std.proofs.lemmas.List.Elements.{All-weaker}
use Rattle.std.proofs.lemmas.Option.{same_Some, slice_get_within}
use Rattle.hv_word.specs.declared.Lane.{Lane}
use Rattle.hv_word.specs.Storage.{page_count, with_word, word_at}
use Rattle.hv_word.specs.Words.{lane_with}
use Rattle.hv_store.specs.declared.access.Access.{Access}
use Rattle.hv_store.specs.declared.access.Access.TheVariants.{Write}
use Rattle.hv_store.specs.declared.access.Slot.{Slot}
use Rattle.hv_store.specs.declared.access.Way.{Way}
use Rattle.hv_store.specs.declared.access.Way.TheVariants.{Open, Shut}
use Rattle.hv_store.proofs.Identity.{length-identity, slice_get-identity}
use Rattle.hv_store.specs.Access.{get, get_at, identity, open_at, put_at, read_through, set, way_for, write_through}
use Rattle.hv_exec.specs.Changes.{leads_to}
use Rattle.hv_map.specs.Chain.{along, map_along}
use Rattle.hv_map.specs.Compose.{compose}
use Rattle.hv_map.specs.Item.{Item}
use Rattle.hv_map.proofs.Handed.{composed_opens}
use Rattle.hv_map.proofs.Views.{identity_same}
use Rattle.hv_nest.specs.declared.notes.Note.{Note}
use Rattle.hv_nest.specs.Notes.{undone}
use Rattle.hv_nest.proofs.Counts.{undone_none}
use Rattle.hv_fast.specs.Memo.{AreOpen, Entries, IsOpenAt, Opens, entries_for, nothing, opens_at}
use Rattle.hv_fast.specs.declared.memo.Entry.{Entry}

-- the test of a way, and of a page
leads_is : (g : ℕ) (way : Way) → leads_to g way ≡ true → way ≡ Open g
leads_is g (Open h) e = ap Open (eqb-true h g e)
leads_is g (Shut l c p w) e = absurd (let f : false ≡ true = e in cc)

opened : (S : List ℕ) (items : List Item) (a : Access) (page g : ℕ) → IsOpenAt S items a page g → opens_at (slice_get (map_along S items) page) a g ≡ true
opened S items a page g h =
    ap (λ (o : Option Slot). opens_at o a g) h.found ∙ ap (leads_to g) h.opens ∙ eq-eqb g g refl

opening : (S : List ℕ) (items : List Item) (a : Access) (page g : ℕ) (o : Option Slot) → slice_get (map_along S items) page ≡ o → opens_at o a g ≡ true → IsOpenAt S items a page g
opening S items a page g None is e = absurd (let f : false ≡ true = e in cc)
opening S items a page g (Some slot) is e = record { slot = slot; found = is; opens = leads_is g (way_for slot a) e }

-- what the map says of a memo can be said by tests
pub to_open : (S : List ℕ) (items : List Item) (m : Entries) → Opens S items m → AreOpen S items m
to_open S items m h a =
    All-weaker (λ (e : Entry). e.page ≢ nothing → IsOpenAt S items a e.page e.host) (λ (e : Entry). e.page ≢ nothing → opens_at (slice_get (map_along S items) e.page) a e.host ≡ true)
    (λ e held some. opened S items a e.page e.host (held some)) (entries_for m a) (h a)

pub from_open : (S : List ℕ) (items : List Item) (m : Entries) → AreOpen S items m → Opens S items m
from_open S items m h a =
    All-weaker (λ (e : Entry). e.page ≢ nothing → opens_at (slice_get (map_along S items) e.page) a e.host ≡ true) (λ (e : Entry). e.page ≢ nothing → IsOpenAt S items a e.page e.host)
    (λ e held some. opening S items a e.page e.host (slice_get (map_along S items) e.page) refl (held some)) (entries_for m a) (h a)

-- the map of a chain opens bare pages of the storage alone
abbrev AllInside : ℕ → List Slot → Type 0
AllInside P F = (y : ℕ) (s : Slot) (a : Access) (x : ℕ) → slice_get F y ≡ Some s → way_for s a ≡ Open x → x < P

identity_inside : (P : ℕ) → AllInside P (identity P)
identity_inside P y s a x is e =
    let within : y < length (identity P) = slice_get_within (identity P) y s is in
    let inside : y < P = omega (arith, length-identity P) in
    let here : s ≡ open_at y = same_Some s (open_at y) (sym is ∙ slice_get-identity P y inside) in
    let same : Open y ≡ Open x = sym (ap (λ (r : Slot). r.read) here) ∙ identity_same P y s a x is e in
    let page : y ≡ x = cc in
    omega arith

along_inside : (P : ℕ) (S : List ℕ) (F : List Slot) (j : ℕ) (items : List Item) → AllInside P F → AllInside P (along S F j items)
unfolding along
along_inside P S F j [] inside = inside
along_inside P S F j (x ∷ xs) inside =
    along_inside P S (compose S F j x.pages x.table x.version) (j + 1) xs
    (λ y s a g is e.
    let o = composed_opens F j S x.pages x.table x.version y s a g is e in
    inside o.0 o.1 a g o.2 o.3)

pub open_inside : (S : List ℕ) (items : List Item) (a : Access) (page g : ℕ) → IsOpenAt S items a page g → g < page_count S
unfolding map_along
open_inside S items a page g h =
    along_inside (page_count S) S (identity (page_count S)) 0 items (identity_inside (page_count S)) page h.slot a g h.found h.opens

-- where nothing is noted, what is at hand is so now
pub at_hand : (S : List ℕ) (items : List Item) (notes : List Note) (m : Entries) (a : Access) (page g : ℕ)
    → 0 < 1 - length notes
    → AreOpen (undone S notes) items m
    → ((T : List ℕ) (xs : List Item) → Opens T xs m → IsOpenAt T xs a page g)
    → IsOpenAt S items a page g
at_hand S items [] m a page g room right opens =
    opens S items (from_open S items m (subst (λ (T : List ℕ). AreOpen T items m) (undone_none S [] refl) right))
at_hand S items (n ∷ notes) m a page g room right opens = absurd (omega (arith, room))

-- a word of a page that is open, and that word written
pub got : (S : List ℕ) (items : List Item) (a : Access) (page g k : ℕ) → IsOpenAt S items a page g → get S (map_along S items) page k a ≡ Some (Ok (word_at S g k))
got S items a page g k h =
    ap (λ (o : Option Slot). get_at S o k a) h.found ∙ ap (λ (way : Way). Some (read_through S way k a)) h.opens

pub written : (S U : List ℕ) (items : List Item) (page g k : ℕ) (lane : Lane) (v : ℕ)
    → IsOpenAt S items Write page g
    → U ≡ with_word S g k (lane_with (word_at S g k) lane v)
    → Some (Ok U) ≡ set S (map_along S items) page k lane v
written S U items page g k lane v h put =
    ap (λ (V : List ℕ). Some (Ok V)) put
    ∙ sym (
    ap (λ (o : Option Slot). put_at S o k lane v) h.found ∙ ap (λ (way : Way). Some (write_through S way k lane v)) h.opens
    )
