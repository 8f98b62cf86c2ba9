-- How often a number stands in a list.
use Rattle.std.proofs.Common.{◌≡◌, ℕ, zero, suc, ◌+◌, ◌<◌, ◌≤◌, ◌==◌, Bool, true, false, not, ◌||◌, cond, List, [], ◌∷◌, ◌++◌, length, take, Option, Some, None, slice_get, slice_index, inl, inr, refl, ap, ◌∙◌, arith}
use Rattle.std.proofs.lemmas.Bool.{cases_lt, eq-eqb, ne_eqb}
use Rattle.std.proofs.lemmas.List.{get_or_past, take_more}
use Rattle.std.proofs.lemmas.List.Sums.{sum_by-cons, sum_by_more_le}
use Rattle.std.proofs.lemmas.Option.{get_or_from_slice_get, same_Some, slice_get-map, slice_get_within}
use Rattle.std.specs.Option.{option_map}
use Rattle.hv_map.specs.declared.chain.ChainItem.{ChainItem}
use Rattle.hv_word.specs.Words.{has}
use Rattle.hv_map.specs.Apart.{blocks_of}
use Rattle.hv_map.specs.Item.{Item}
use Rattle.hv_map.specs.Links.{chain_item}
use Rattle.hv_cache.specs.Counting.{occurrences}

-- one more element
pub occurrences-cons : (g x : ℕ) (xs : List ℕ) → occurrences g (x ∷ xs) ≡ cond (g == x) 1 0 + occurrences g xs
occurrences-cons g x xs = sum_by-cons (λ y. cond (g == y) 1 0) x xs

-- the element at a place is one of those that stand in the list, beside those before it
pub occurrences_more : (xs : List ℕ) (i : ℕ) → i < length xs → occurrences (slice_index xs i) (take i xs) + 1 ≤ occurrences (slice_index xs i) xs
occurrences_more xs i h =
    let g = slice_index xs i in
    let e : (g == g) ≡ true = eq-eqb g g refl in
    rw e at (sum_by_more_le (λ y. cond (g == y) 1 0) xs i 0 h)

-- what a list has at a place that isn't 0 lies inside it
pub inside_of_some : (xs : List ℕ) (i : ℕ) → 0 < slice_index xs i → i < length xs
inside_of_some xs i h = elim (cases_lt i (length xs)) [
  | inl l ↦ l
  | inr l ↦ absurd (omega (arith, h, get_or_past xs i 0 l))
]

zero_plus : (n : ℕ) → 0 + n ≡ n
zero_plus n = omega arith

not_none : (m : ℕ) → 0 < m → (m == 0) ≡ false
not_none m h = ne_eqb m 0 (λ e. absurd (omega (arith, e, h)))

-- a sum is some number where one of its parts is
pub some_of_sum : (m n : ℕ) (a b : Bool) → not (m == 0) ≡ a → not (n == 0) ≡ b → not (m + n == 0) ≡ (a || b)
some_of_sum zero n a b p q = rw (← p, zero_plus n) q
some_of_sum (suc m) n a b p q = rw (← p, not_none (suc m) (omega arith), not_none (suc m + n) (omega arith)) refl

some_of_test : (b : Bool) → not (cond b 1 0 == 0) ≡ b
some_of_test true = refl
some_of_test false = refl

-- a number stands in a list where it occurs
pub has_occurring : (g : ℕ) (xs : List ℕ) → not (occurrences g xs == 0) ≡ has g xs
has_occurring g [] = refl
has_occurring g (x ∷ xs) =
    rw (occurrences-cons g x xs)
    (some_of_sum (cond (g == x) 1 0) (occurrences g xs) (g == x) (has g xs) (some_of_test (g == x)) (has_occurring g xs))

-- the block of one machine more
pub blocks_more : (items : List Item) (i : ℕ) (r : ChainItem) → option_map chain_item (slice_get items i) ≡ Some r → take (i + 1) (blocks_of items) ≡ take i (blocks_of items) ++ r.block ∷ []
blocks_more items i r e = take_more (blocks_of items) i 0 (slice_get_within (blocks_of items) i r.block found) ∙ ap (λ (g : ℕ). take i (blocks_of items) ++ g ∷ []) (get_or_from_slice_get (blocks_of items) i r.block 0 found)
  where
    at : (o : Option Item) → option_map chain_item o ≡ Some r → option_map (λ (x : Item). x.block) o ≡ Some r.block
    at None h = cc
    at (Some x) h = ap (λ (y : ChainItem). Some y.block) (same_Some (chain_item x) r h)

    found : slice_get (blocks_of items) i ≡ Some r.block
    found = slice_get-map (λ (x : Item). x.block) items i ∙ at (slice_get items i) e
