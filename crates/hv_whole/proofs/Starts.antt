-- At the start the bare machine has what the watched machine sees, and its registers.
use Rattle.std.proofs.Common.{◌≡◌, ℕ, ◌+◌, ◌<◌, List, [], ◌∷◌, length, Some, refl, ap, ◌∙◌, sym, subst, arith}
use Rattle.std.proofs.lemmas.Option.{same_Some, slice_get_within}
use Rattle.hv_word.specs.Storage.{page_count, word_at}
use Rattle.hv_store.specs.declared.access.Access.TheVariants.{Read}
use Rattle.hv_store.specs.declared.access.Slot.{Slot}
use Rattle.hv_store.specs.declared.access.Way.TheVariants.{Open}
use Rattle.hv_store.specs.Access.{identity, open_at}
use Rattle.hv_store.proofs.Identity.{length-identity, slice_get-identity}
use Rattle.hv_map.specs.Item.{Item}
use Rattle.hv_map.specs.Compose.{compose, reading}
use Rattle.hv_map.specs.Chain.{along, map_along}
use Rattle.hv_map.specs.Carried.{ShutBelow}
use Rattle.hv_map.specs.Seen.{seen}
use Rattle.hv_map.proofs.Handed.{reading_slot, composed_opens}
use Rattle.hv_map.proofs.Views.{seen_agrees, length-seen, identity_below, identity_same, along_below, along_same}
use Rattle.hv_map.proofs.Words.{each_chain}
use Rattle.hv_nest.specs.State.{State}
use Rattle.hv_whole.specs.Whole.{own}
use Rattle.hv_whole.specs.Linked.{Aside, Alone, Linked}
use Rattle.hv_whole.proofs.Apartness.{reading_at}

-- each page that can be read is one of the storage
abbrev ReadsInside : ℕ → List Slot → Type 0
ReadsInside P F = (y x : ℕ) → reading F y ≡ Some (Open x) → x < P

identity_inside : (P : ℕ) → ReadsInside P (identity P)
identity_inside P y x e =
    let r = reading_slot (identity P) y (Open x) e in
    let within : y < length (identity P) = slice_get_within (identity P) y r.0 r.1 in
    let inside : y < P = omega (arith, length-identity P) in
    let here : r.0 ≡ open_at y = same_Some r.0 (open_at y) (sym r.1 ∙ slice_get-identity P y inside) in
    let same : Open y ≡ Open x = sym (ap (λ (s : Slot). s.read) here) ∙ r.2 in
    let page : y ≡ x = cc in
    omega arith

along_inside : (P : ℕ) (S : List ℕ) (F : List Slot) (j : ℕ) (xs : List Item) → ReadsInside P F → ReadsInside P (along S F j xs)
unfolding along
along_inside P S F j [] inside = inside
along_inside P S F j (x ∷ xs) inside =
    along_inside P S (compose S F j x.pages x.table x.version) (j + 1) xs
    (λ y g e.
    let r = reading_slot (compose S F j x.pages x.table x.version) y (Open g) e in
    let o = composed_opens F j S x.pages x.table x.version y r.0 Read g r.1 r.2 in
    inside o.0 g (reading_at F o.0 g o.1 o.2 o.3))

pub start_linked : (h : ℕ) (items : List Item) (start : State)
    → Alone start.storage items (map_along start.storage items)
    → Linked h items start.storage (map_along start.storage items) start (seen start.storage (map_along start.storage items)) (own h items start)
unfolding map_along
start_linked h items start stand =
    let S : List ℕ = start.storage in
    let P : ℕ = page_count S in
    let I : List Slot = identity P in
    let F : List Slot = along S I 0 items in
    let level : 0 + length items ≡ length items = omega arith in
    record {
      chain = each_chain (Aside F items) (λ g w. word_at S g w ≡ word_at S g w) (λ g w a. refl) S I 0 items stand.chain;
      len = refl;
      sees = record {
        apart = stand.one;
        inside = along_inside P S I 0 items (identity_inside P);
        same = along_same S I 0 items (identity_same P);
        below = subst (λ (k : ℕ). ShutBelow k F) level (along_below S I 0 items (identity_below P));
        size = length-seen S F;
        agree = seen_agrees S F;
      };
      regs = refl;
    }
