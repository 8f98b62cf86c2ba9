-- Lists of bare pages, one page more each time.
use Rattle.std.proofs.Common.{◌≡◌, ℕ, ◌+◌, ◌<◌, Bool, true, false, ◌||◌, ◌==◌, List, [], ◌∷◌, ◌++◌, length, take, set, refl, sym, subst, arith}
use Rattle.std.specs.List.{IsDistinct, AllByRecursion}
use Rattle.std.proofs.lemmas.Bool.Decides.{nat_tests}
use Rattle.std.proofs.lemmas.List.{take_more_set}
use Rattle.std.proofs.lemmas.Map.Keys.{IsDistinct-cons, IsDistinct-head, IsDistinct-tail}
use Rattle.hv_word.specs.Words.{has}

turned : (a b : ℕ) → (a == b) ≡ false → (b == a) ≡ false
turned a b e = grind (arith, nat_tests, e)

parts : (a b : Bool) → (a || b) ≡ false → (a ≡ false) × (b ≡ false)
parts true b e = absurd (let f : true ≡ false = e in cc)
parts false b e = (refl, e)

-- a number that isn't in a list differs from each in it
all_push : (x g : ℕ) (xs : List ℕ) → AllByRecursion (λ y. (x == y) ≡ false) xs → (x == g) ≡ false → AllByRecursion (λ y. (x == y) ≡ false) (xs ++ g ∷ [])
all_push x g [] all e = (e, tt)
all_push x g (y ∷ ys) all e = (all.0, all_push x g ys all.1 e)

pub distinct_push : (xs : List ℕ) (g : ℕ) → IsDistinct (λ a b. a == b) xs → has g xs ≡ false → IsDistinct (λ a b. a == b) (xs ++ g ∷ [])
distinct_push [] g d h = IsDistinct-cons _ g [] tt d
distinct_push (x ∷ xs) g d h =
    let p = parts (g == x) (has g xs) h in
    IsDistinct-cons _ x (xs ++ g ∷ [])
    (all_push x g xs (IsDistinct-head _ x xs d) (turned g x p.0))
    (distinct_push xs g (IsDistinct-tail _ x xs d) p.1)

-- a list that is kept in the first n places, with one page more
pub distinct_set : (pages : List ℕ) (n g : ℕ) → n < length pages → IsDistinct (λ a b. a == b) (take n pages) → has g (take n pages) ≡ false → IsDistinct (λ a b. a == b) (take (n + 1) (set pages n g))
distinct_set pages n g room d h =
    subst (IsDistinct (λ a b. a == b)) (sym (take_more_set pages n g room)) (distinct_push (take n pages) g d h)
