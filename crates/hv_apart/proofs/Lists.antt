-- Lists of numbers that grow at their end.
use Rattle.std.proofs.Common.{◌≡◌, ℕ, Bool, true, false, not, ◌&&◌, ◌||◌, ◌==◌, List, [], ◌∷◌, ◌++◌, refl, ap, ap₂, ◌∙◌, sym, arith}
use Rattle.std.proofs.lemmas.Bool.Decides.{nat_tests}
use Rattle.hv_word.specs.Words.{has}
use Rattle.hv_map.specs.Apart.{are_distinct}

pub or_assoc : (a b c : Bool) → ((a || b) || c) ≡ (a || (b || c))
or_assoc true b c = refl
or_assoc false b c = refl

-- it is in one of two lists, one after the other
pub has-append : (a : ℕ) (xs ys : List ℕ) → has a (xs ++ ys) ≡ (has a xs || has a ys)
has-append a [] ys = refl
has-append a (x ∷ xs) ys = ap (λ (b : Bool). (a == x) || b) (has-append a xs ys) ∙ sym (or_assoc (a == x) (has a xs) (has a ys))

pub same_or : (a b : Bool) → (a || (b || false)) ≡ (b || a)
same_or true true = refl
same_or true false = refl
same_or false true = refl
same_or false false = refl

pub has-push : (a x : ℕ) (xs : List ℕ) → has a (xs ++ x ∷ []) ≡ ((a == x) || has a xs)
has-push a x xs = has-append a xs (x ∷ []) ∙ same_or (has a xs) (a == x)

eqb_sym : (a b : ℕ) → (a == b) ≡ (b == a)
eqb_sym a b = grind (arith, nat_tests)

pub distinct-push : (x : ℕ) (xs : List ℕ) → are_distinct (xs ++ x ∷ []) ≡ (not (has x xs) && are_distinct xs)
unfolding are_distinct
distinct-push x [] = refl
distinct-push x (y ∷ ys) =
    ap₂ (λ (a b : Bool). not a && b) (has-push y x ys ∙ ap (λ (b : Bool). b || has y ys) (eqb_sym y x)) (distinct-push x ys)
    ∙ turn (x == y) (has y ys) (has x ys) (are_distinct ys)
  where
    turn : (e a b d : Bool) → (not (e || a) && (not b && d)) ≡ (not (e || b) && (not a && d))
    turn true a b d = refl
    turn false true true d = refl
    turn false true false d = refl
    turn false false true d = refl
    turn false false false d = refl
