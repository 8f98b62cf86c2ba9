-- A composed map slot by slot, and a map along one more machine.
use Rattle.std.proofs.Common.{◌≡◌, ℕ, suc, ◌+◌, ◌<◌, List, [], ◌∷◌, ◌++◌, map, length, Some, ap, ◌∙◌, sym, arith, slice_get}
use Rattle.std.specs.List.{range_with_len}
use Rattle.std.proofs.lemmas.Option.{slice_get-get_or, slice_get_within, same_Some}
use Rattle.std.proofs.lemmas.List.FromFn.{length-map-range_with_len, get_or-map-range_with_len}
use Rattle.hv_store.specs.declared.access.Slot.{Slot}
use Rattle.hv_map.specs.Item.{Item}
use Rattle.hv_map.specs.Compose.{compose, compose_slot}
use Rattle.hv_map.specs.Chain.{along}

-- a child's map has a slot for each of its pages
pub length-composed : (S : List ℕ) (F : List Slot) (j n t v : ℕ) → length (compose S F j n t v) ≡ n
unfolding compose
length-composed S F j n t v = length-map-range_with_len (compose_slot S F j t v) 0 n

pub slice_get-composed : (S : List ℕ) (F : List Slot) (j n t v i : ℕ) → i < n → slice_get (compose S F j n t v) i ≡ Some (compose_slot S F j t v i)
unfolding compose
slice_get-composed S F j n t v i h =
    let inside : i < length (map (compose_slot S F j t v) (range_with_len 0 n)) = omega (arith, length-map-range_with_len (compose_slot S F j t v) 0 n) in
    slice_get-get_or (map (compose_slot S F j t v) (range_with_len 0 n)) i (compose_slot S F j t v 0) inside
    ∙ ap Some (get_or-map-range_with_len (compose_slot S F j t v) 0 n i i (compose_slot S F j t v 0) h (omega arith))

-- and no other slot
pub composed_inside : (S : List ℕ) (F : List Slot) (j n t v i : ℕ) (s : Slot) → slice_get (compose S F j n t v) i ≡ Some s → i < n
composed_inside S F j n t v i s e =
    let inside : i < length (compose S F j n t v) = slice_get_within (compose S F j n t v) i s e in
    omega (arith, length-composed S F j n t v)

pub composed_at : (S : List ℕ) (F : List Slot) (j n t v i : ℕ) (s : Slot) → slice_get (compose S F j n t v) i ≡ Some s → s ≡ compose_slot S F j t v i
composed_at S F j n t v i s e =
    same_Some s (compose_slot S F j t v i) (sym e ∙ slice_get-composed S F j n t v i (composed_inside S F j n t v i s e))

-- the map along one more machine is composed of the map so far
pub along-snoc : (S : List ℕ) (F : List Slot) (j : ℕ) (xs : List Item) (x : Item) → along S F j (xs ++ x ∷ []) ≡ compose S (along S F j xs) (j + length xs) x.pages x.table x.version
unfolding along
along-snoc S F j [] x = let e : j ≡ j + 0 = omega arith in ap (λ (k : ℕ). compose S F k x.pages x.table x.version) e
along-snoc S F j (y ∷ xs) x =
    let e : j + 1 + length xs ≡ j + suc (length xs) = omega arith in
    along-snoc S (compose S F j y.pages y.table y.version) (j + 1) xs x
    ∙ ap (λ (k : ℕ). compose S (along S (compose S F j y.pages y.table y.version) (j + 1) xs) k x.pages x.table x.version) e

-- and along two rows of machines, one after the other
pub along-append : (S : List ℕ) (F : List Slot) (j : ℕ) (xs ys : List Item) → along S F j (xs ++ ys) ≡ along S (along S F j xs) (j + length xs) ys
unfolding along
along-append S F j [] ys = let e : j ≡ j + 0 = omega arith in ap (λ (k : ℕ). along S F k ys) e
along-append S F j (y ∷ xs) ys =
    let e : j + 1 + length xs ≡ j + suc (length xs) = omega arith in
    along-append S (compose S F j y.pages y.table y.version) (j + 1) xs ys
    ∙ ap (λ (k : ℕ). along S (along S (compose S F j y.pages y.table y.version) (j + 1) xs) k ys) e
