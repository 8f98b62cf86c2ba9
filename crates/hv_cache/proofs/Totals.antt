-- Sums over the entries of a cache, and what stays of them where entries come and go.
use Rattle.std.proofs.Common.{◌≡◌, ℕ, zero, suc, ◌+◌, ◌≤◌, ◌==◌, Bool, true, false, not, cond, List, [], ◌∷◌, length, take, Option, Some, None, slice_get, refl, arith}
use Rattle.std.specs.Map.{lookup, remove_entry}
use Rattle.hv_word.specs.Words.{has}
use Rattle.hv_cache.specs.Kept.{Kept, rests_on}
use Rattle.hv_cache.specs.Holding.{Entry, Key, any_has_table, any_rests_on}
use Rattle.hv_cache.specs.Counting.{occurrences, pages_named, tables_named, total}
use Rattle.hv_cache.proofs.Occurring.{has_occurring, some_of_sum}

-- what one entry adds, if there is one
abbrev pub part : (Kept → ℕ) → Option Kept → ℕ
part f None = 0
part f (Some k) = f k

abbrev pub entry_part : (Kept → ℕ) → Option Entry → ℕ
entry_part f None = 0
entry_part f (Some e) = f e.1

-- the entry of a key that leaves takes its part along
removed : (f : Kept → ℕ) (test : Key → Bool) (e : Entry) (es : List Entry) (b : Bool) → total f (remove_entry test es) + part f (lookup test es) ≡ total f es → total f (cond b es (e ∷ remove_entry test es)) + part f (cond b (Some e.1) (lookup test es)) ≡ f e.1 + total f es
unfolding total
removed f test e es true h = omega arith
removed f test e es false h = omega (arith, h)

pub total-remove : (f : Kept → ℕ) (test : Key → Bool) (es : List Entry) → total f (remove_entry test es) + part f (lookup test es) ≡ total f es
unfolding total
total-remove f test [] = refl
total-remove f test (e ∷ es) = removed f test e es (test e.0) (total-remove f test es)

-- and so does the last one, where there is one entry too many
pub total-take : (f : Kept → ℕ) (n : ℕ) (es : List Entry) → length es ≤ n + 1 → total f (take n es) + entry_part f (slice_get es n) ≡ total f es
unfolding total
total-take f zero [] h = refl
total-take f (suc n) [] h = refl
total-take f zero (e ∷ []) h = omega arith
total-take f zero (e ∷ (d ∷ es)) h = absurd (omega (arith, h))
total-take f (suc n) (e ∷ es) h = let rest = total-take f n es (omega (arith, h)) in omega (arith, rest)

-- some entry rests on a page, or has it among its tables, where it is named
pub named_rests : (g : ℕ) (es : List Entry) → not (total (pages_named g) es == 0) ≡ any_rests_on g es
unfolding total pages_named
named_rests g [] = refl
named_rests g (e ∷ es) =
    some_of_sum (pages_named g e.1) (total (pages_named g) es) (rests_on g e.1) (any_rests_on g es)
    (some_of_sum (occurrences g e.1.blocks) (occurrences g e.1.tables) (has g e.1.blocks) (has g e.1.tables) (has_occurring g e.1.blocks) (has_occurring g e.1.tables))
    (named_rests g es)

pub named_tables : (g : ℕ) (es : List Entry) → not (total (tables_named g) es == 0) ≡ any_has_table g es
unfolding total tables_named
named_tables g [] = refl
named_tables g (e ∷ es) =
    some_of_sum (tables_named g e.1) (total (tables_named g) es) (has g e.1.tables) (any_has_table g es)
    (has_occurring g e.1.tables)
    (named_tables g es)
