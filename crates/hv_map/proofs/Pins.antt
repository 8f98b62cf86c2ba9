-- The machines on a path, one after another.
use Rattle.std.proofs.Common.{◌≡◌, ℕ, suc, ◌+◌, ◌<◌, ◌≤◌, List, [], ◌∷◌, ◌++◌, length, Option, Some, None, length-append, refl, ap, ap₂, ◌∙◌, sym, arith, slice_get, get_or, drop, append_assoc}
use Rattle.std.specs.Option.{option_and_then}
use Rattle.std.proofs.Math.Seq.{drop-cons}
use Rattle.std.proofs.Math.Numerals.{add-one}
use Rattle.std.proofs.lemmas.List.{append-nil, drop_all}
use Rattle.std.proofs.lemmas.Option.{slice_get_past}
use Rattle.hv_word.specs.Storage.{page_count}
use Rattle.hv_store.specs.declared.access.Slot.{Slot}
use Rattle.hv_store.specs.declared.access.Refusal.{Refusal}
use Rattle.hv_store.specs.declared.access.Way.{Way}
use Rattle.hv_store.specs.declared.access.Way.TheVariants.{Open, Shut}
use Rattle.hv_store.specs.Access.{identity}
use Rattle.hv_block.specs.declared.Block.{Block}
use Rattle.hv_block.specs.Block.{Contents, block_of}
use Rattle.hv_map.specs.Item.{Item}
use Rattle.hv_map.specs.Compose.{compose}
use Rattle.hv_map.specs.Chain.{along, map_along, child_with, child_through, child_at, child_of, option_cons, machines, pin_of}
use Rattle.hv_map.specs.declared.found.Found.{Found}
use Rattle.hv_map.specs.declared.found.Found.TheVariants.{Child, Malformed, Refused}
use Rattle.hv_map.specs.Found.{found_in, found_through, found_at, found_on, item_of}
use Rattle.hv_map.proofs.Slots.{along-snoc}

-- what is found on a page is the child that is there
item_found : ℕ → Option Found → Option Item
item_found s None = None
item_found s (Some (Child g b)) = Some (item_of s g b)
item_found s (Some (Malformed g)) = None
item_found s (Some (Refused e)) = None

child_found : (S : List ℕ) (F : List Slot) (s : ℕ) → item_found s (found_on S F s) ≡ child_of S F s
unfolding item_found
child_found S F s = at (slice_get F s)
  where
    contents : (g : ℕ) (o : Option Contents) → item_found s (Some (found_in g o)) ≡ child_with s g o
    contents g None = refl
    contents g (Some h) = refl

    through : (way : Way) → item_found s (Some (found_through S way)) ≡ child_through S s way
    through (Open g) = contents g (block_of S g)
    through (Shut l c p w) = refl

    at : (o : Option Slot) → item_found s (found_at S o) ≡ child_at S s o
    at None = refl
    at (Some slot) = through slot.write

pub child_there : (S : List ℕ) (F : List Slot) (s g : ℕ) (b : Block) → Some (Child g b) ≡ found_on S F s → child_of S F s ≡ Some (item_of s g b)
unfolding item_found
child_there S F s g b e = sym (child_found S F s) ∙ ap (item_found s) (sym e)

pub child_malformed : (S : List ℕ) (F : List Slot) (s g : ℕ) → Some (Malformed g) ≡ found_on S F s → child_of S F s ≡ None
unfolding item_found
child_malformed S F s g e = sym (child_found S F s) ∙ ap (item_found s) (sym e)

pub child_refused : (S : List ℕ) (F : List Slot) (s : ℕ) (r : Refusal) → Some (Refused r) ≡ found_on S F s → child_of S F s ≡ None
unfolding item_found
child_refused S F s r e = sym (child_found S F s) ∙ ap (item_found s) (sym e)

pub child_outside : (S : List ℕ) (F : List Slot) (s : ℕ) → length F ≤ s → child_of S F s ≡ None
child_outside S F s h = ap (child_at S s) (slice_get_past F s h)

-- the machines of one list, and then those of another, if there are such
pub before : List Item → Option (List Item) → Option (List Item)
before xs None = None
before xs (Some ys) = Some (xs ++ ys)

before_cons : (xs : List Item) (x : Item) (o : Option (List Item)) → before xs (option_cons x o) ≡ before (xs ++ x ∷ []) o
unfolding before
before_cons xs x None = refl
before_cons xs x (Some ys) = ap Some (sym (append_assoc xs (x ∷ []) ys))

-- the machines on what is left of a path, behind those that were found
unfoldable pub rest_of : List ℕ → List Item → List ℕ → Option (List Item)
rest_of S chain path = before chain (machines S (map_along S chain) (length chain) path)

pub rest_all : (S path : List ℕ) → rest_of S [] path ≡ pin_of S path
unfolding rest_of before pin_of map_along along
rest_all S path = same (machines S (identity (page_count S)) 0 path)
  where
    same : (o : Option (List Item)) → before [] o ≡ o
    same None = refl
    same (Some ys) = refl

pub rest_none : (S : List ℕ) (chain : List Item) (s : ℕ) (path : List ℕ) → child_of S (map_along S chain) s ≡ None → rest_of S chain (s ∷ path) ≡ None
unfolding rest_of before machines
rest_none S chain s path e =
    ap (λ (o : Option Item). before chain (option_and_then (λ (x : Item). option_cons x (machines S (compose S (map_along S chain) (length chain) x.pages x.table x.version) (length chain + 1) path)) o)) e

pub rest_some : (S : List ℕ) (chain : List Item) (s : ℕ) (path : List ℕ) (x : Item) → child_of S (map_along S chain) s ≡ Some x → rest_of S chain (s ∷ path) ≡ rest_of S (chain ++ x ∷ []) path
unfolding rest_of machines map_along
rest_some S chain s path x e =
    ap (λ (o : Option Item). before chain (option_and_then (λ (y : Item). option_cons y (machines S (compose S (map_along S chain) (length chain) y.pages y.table y.version) (length chain + 1) path)) o)) e
    ∙ before_cons chain x (machines S (compose S (map_along S chain) (length chain) x.pages x.table x.version) (length chain + 1) path)
    ∙ ap₂ (λ (F : List Slot) (j : ℕ). before (chain ++ x ∷ []) (machines S F j path)) (sym grown) longer
  where
    longer : length chain + 1 ≡ length (chain ++ x ∷ [])
    longer = omega (arith, length-append chain (x ∷ []))

    level : 0 + length chain ≡ length chain
    level = omega arith

    grown : along S (identity (page_count S)) 0 (chain ++ x ∷ []) ≡ compose S (along S (identity (page_count S)) 0 chain) (length chain) x.pages x.table x.version
    grown =
        along-snoc S (identity (page_count S)) 0 chain x
        ∙ ap (λ (j : ℕ). compose S (along S (identity (page_count S)) 0 chain) j x.pages x.table x.version) level

pub rest_end : (S : List ℕ) (chain : List Item) → rest_of S chain [] ≡ Some chain
unfolding rest_of machines before
rest_end S chain = ap Some (append-nil chain)

-- the same at the path's syllable i
pub rest_stops : (S : List ℕ) (chain : List Item) (path : List ℕ) (i : ℕ) → i < length path → child_of S (map_along S chain) (get_or path i 0) ≡ None → rest_of S chain (drop i path) ≡ None
rest_stops S chain path i h e = ap (rest_of S chain) (drop-cons path i 0 h) ∙ rest_none S chain (get_or path i 0) (drop (suc i) path) e

pub rest_goes_on : (S : List ℕ) (chain : List Item) (path : List ℕ) (i : ℕ) (x : Item) → i < length path → child_of S (map_along S chain) (get_or path i 0) ≡ Some x → rest_of S chain (drop i path) ≡ rest_of S (chain ++ x ∷ []) (drop (i + 1) path)
rest_goes_on S chain path i x h e =
    ap (rest_of S chain) (drop-cons path i 0 h)
    ∙ rest_some S chain (get_or path i 0) (drop (suc i) path) x e
    ∙ ap (λ (j : ℕ). rest_of S (chain ++ x ∷ []) (drop j path)) (sym (add-one i))

pub rest_ends : (S : List ℕ) (chain : List Item) (path : List ℕ) (i : ℕ) → length path ≤ i → rest_of S chain (drop i path) ≡ Some chain
rest_ends S chain path i h = ap (rest_of S chain) (drop_all i path h) ∙ rest_end S chain

pub ruleset pins = (rest_all, rest_stops, rest_goes_on, rest_ends, child_there, child_malformed, child_refused, child_outside)
