-- Bare pages that are given to something, and those beside them, which stay as they were.
use Rattle.std.proofs.Common.{◌≡◌, ℕ, zero, suc, ◌+◌, ◌*◌, ◌<◌, ◌≤◌, ◌⊎◌, inl, inr, Bool, true, false, not, ◌&&◌, ◌||◌, List, [], ◌∷◌, map, set, refl, ap, ◌∙◌, arith}
use Rattle.std.specs.List.{range_with_len}
use Rattle.std.proofs.lemmas.Bool.{ne_eqb}
use Rattle.std.proofs.lemmas.List.{get_or-set_other}
use Rattle.hv_word.specs.Words.{has}
use Rattle.hv_map.specs.Apart.{are_distinct}
use Rattle.hv_load.specs.Making.{all_free, can_take}
use Rattle.hv_load.specs.Pages.{free_at, is_free, marked, page_at}

-- a bare page that isn't one of some others
abbrev Misses : ℕ → List ℕ → Type 0
Misses g [] = Unit {0}
Misses g (p ∷ ps) = (g ≡ p → ⊥) × Misses g ps

kept : (mark : _) (ps : List ℕ) (marks : List _) (g : ℕ) → Misses g ps → free_at (marked mark ps marks) g ≡ free_at marks g
kept mark [] marks g m = refl
kept mark (p ∷ ps) marks g m = kept mark ps (set marks p mark) g m.1 ∙ ap is_free (get_or-set_other marks p g mark _ m.0)

misses_run : (g a n : ℕ) → (g < a) ⊎ (a + n ≤ g) → Misses g (range_with_len a n)
misses_run g a zero h = tt
misses_run g a (suc n) h = (differs h, misses_run g (a + 1) n (further h))
  where
    differs : (g < a) ⊎ (a + suc n ≤ g) → g ≡ a → ⊥
    differs (inl low) e = omega arith
    differs (inr high) e = omega arith

    further : (g < a) ⊎ (a + suc n ≤ g) → (g < a + 1) ⊎ (a + 1 + n ≤ g)
    further (inl low) = inl (omega arith)
    further (inr high) = inr (omega arith)

misses_places : (g a n : ℕ) → a + n ≤ 1024 * g → Misses g (map page_at (range_with_len a n))
misses_places g a zero h = tt
misses_places g a (suc n) h = (λ e. omega (arith, e, h), misses_places g (a + 1) n (omega (arith, h)))

-- beside pages that lie one after another
pub run_kept : (mark : _) (marks : List _) (g a n : ℕ) → (g < a) ⊎ (a + n ≤ g) → free_at (marked mark (range_with_len a n) marks) g ≡ free_at marks g
run_kept mark marks g a n h = kept mark (range_with_len a n) marks g (misses_run g a n h)

-- behind the pages of words that lie one after another
pub places_kept : (mark : _) (marks : List _) (g a n : ℕ) → a + n ≤ 1024 * g → free_at (marked mark (map page_at (range_with_len a n)) marks) g ≡ free_at marks g
places_kept mark marks g a n h = kept mark (map page_at (range_with_len a n)) marks g (misses_places g a n h)

all_free_run : (marks : List _) (a n : ℕ) → ((g : ℕ) → a ≤ g → g < a + n → free_at marks g ≡ true) → all_free marks (range_with_len a n) ≡ true
all_free_run marks a zero free = refl
all_free_run marks a (suc n) free =
    ap (λ (b : Bool). b && all_free marks (range_with_len (a + 1) n)) (free a (omega arith) (omega arith))
    ∙ all_free_run marks (a + 1) n (λ g low high. free g (omega (arith, low)) (omega (arith, high)))

not_in_run : (g a n : ℕ) → g < a → has g (range_with_len a n) ≡ false
not_in_run g a zero lt = refl
not_in_run g a (suc n) lt =
    ap (λ (b : Bool). b || has g (range_with_len (a + 1) n)) (ne_eqb g a (λ e. omega (arith, e, lt)))
    ∙ not_in_run g (a + 1) n (omega (arith, lt))

run_distinct : (a n : ℕ) → are_distinct (range_with_len a n) ≡ true
unfolding are_distinct
run_distinct a zero = refl
run_distinct a (suc n) =
    ap (λ (b : Bool). not b && are_distinct (range_with_len (a + 1) n)) (not_in_run a (a + 1) n (omega arith))
    ∙ run_distinct (a + 1) n

-- free pages that lie one after another can be taken
pub can_take_run : (marks : List _) (a n : ℕ) → ((g : ℕ) → a ≤ g → g < a + n → free_at marks g ≡ true) → can_take marks (range_with_len a n) ≡ true
can_take_run marks a n free =
    ap (λ (b : Bool). b && are_distinct (range_with_len a n)) (all_free_run marks a n free)
    ∙ run_distinct a n
