-- A machine that is there has at least one page.
use Rattle.std.proofs.Common.{◌≡◌, ℕ, ◌+◌, ◌≤◌, List, [], ◌∷◌, length, Option, Some, None, refl, ap, subst, arith}
use Rattle.std.specs.Prelude.{slice_get}
use Rattle.std.specs.Option.{option_and_then}
use Rattle.std.proofs.lemmas.Option.{same_Some}
use Rattle.hv_word.specs.Storage.{page_count}
use Rattle.hv_store.specs.declared.access.Slot.{Slot}
use Rattle.hv_store.specs.declared.access.Way.{Way}
use Rattle.hv_store.specs.declared.access.Way.TheVariants.{Open, Shut}
use Rattle.hv_store.specs.Access.{identity}
use Rattle.hv_store.proofs.Identity.{length-identity}
use Rattle.hv_block.specs.Block.{Contents, block_of}
use Rattle.hv_block.proofs.Blocks.{block_sized}
use Rattle.hv_map.specs.Item.{Item}
use Rattle.hv_map.specs.Compose.{compose}
use Rattle.hv_map.specs.Chain.{along, map_along, child_with, child_through, child_at, child_of, option_cons, machines, pin_of}
use Rattle.hv_map.proofs.Slots.{length-composed}

-- a child has one, since its block is well formed
child_has_pages : (S : List ℕ) (F : List Slot) (s : ℕ) (x : Item) → child_of S F s ≡ Some x → 1 ≤ x.pages
child_has_pages S F s x e = at (slice_get F s) e
  where
    contents : (g : ℕ) (o : Option Contents) → block_of S g ≡ o → child_with s g o ≡ Some x → 1 ≤ x.pages
    contents g None b h = absurd (cc)
    contents g (Some k) b h =
        let same : k.pages ≡ x.pages = ap (λ (y : Item). y.pages) (same_Some _ x h) in
        let sized = block_sized S g k b in
        subst (λ n. 1 ≤ n) same sized.some

    through : (way : Way) → child_through S s way ≡ Some x → 1 ≤ x.pages
    through (Open g) h = contents g (block_of S g) refl h
    through (Shut l c p w) h = absurd (cc)

    at : (o : Option Slot) → child_at S s o ≡ Some x → 1 ≤ x.pages
    at None h = absurd (cc)
    at (Some slot) h = through slot.write h

-- what is behind the child that x describes, in its map
abbrev behind_child : List ℕ → List Slot → ℕ → List ℕ → Item → Option (List Item)
behind_child S F j path x = machines S (compose S F j x.pages x.table x.version) (j + 1) path

abbrev last_map : List ℕ → List Slot → ℕ → Item → List Item → List Slot
last_map S F j x xs = along S (compose S F j x.pages x.table x.version) (j + 1) xs

-- and so has each machine on a path behind one that has
machines_have_pages : (path : List ℕ) (S : List ℕ) (F : List Slot) (j : ℕ) (items : List Item) → 1 ≤ length F → machines S F j path ≡ Some items → 1 ≤ length (along S F j items)
unfolding machines along
machines_have_pages [] S F j items some e = subst (λ xs. 1 ≤ length (along S F j xs)) (same_Some [] items e) some
machines_have_pages (s ∷ path) S F j items some e =
    at (λ x xs. machines_have_pages path S (compose S F j x.pages x.table x.version) (j + 1) xs) (child_of S F s) refl e
  where
    at : ((x : Item) (xs : List Item) → 1 ≤ length (compose S F j x.pages x.table x.version) → behind_child S F j path x ≡ Some xs → 1 ≤ length (last_map S F j x xs)) → (o : Option Item) → child_of S F s ≡ o → option_and_then (λ (x : Item). option_cons x (behind_child S F j path x)) o ≡ Some items → 1 ≤ length (along S F j items)
    at deeper None there h = absurd (cc)
    at deeper (Some x) there h = behind (behind_child S F j path x) refl h
      where
        behind : (o : Option (List Item)) → behind_child S F j path x ≡ o → option_cons x o ≡ Some items → 1 ≤ length (along S F j items)
        behind None m i = absurd (cc)
        behind (Some xs) m i =
            let pages = child_has_pages S F s x there in
            let long : 1 ≤ length (compose S F j x.pages x.table x.version) = omega (arith, length-composed S F j x.pages x.table x.version) in
            subst (λ ys. 1 ≤ length (along S F j ys)) (same_Some (x ∷ xs) items i) (deeper x xs long m)

pub pinned_has_pages : (S path : List ℕ) (items : List Item) → 1 ≤ page_count S → pin_of S path ≡ Some items → 1 ≤ length (map_along S items)
unfolding pin_of map_along
pinned_has_pages S path items some e =
    machines_have_pages path S (identity (page_count S)) 0 items (omega (arith, length-identity (page_count S))) e
