-- Numbers as digits, one more at a time.
use Rattle.std.proofs.Common.{◌≡◌, ℕ, suc, ◌+◌, ◌*◌, ◌^◌, ◌<◌, ◌≤◌, nat_eq, false, cond, Some, None, List, [], ◌∷◌, length, get_or, drop, refl, sym, ap, ◌∙◌, arith, eq-eqb, drop-cons}
use Rattle.std.specs.Option.{option_and_then}
use Rattle.std.proofs.Math.Nat.{mul-le-mul_left}
use Rattle.std.proofs.lemmas.List.{drop_all}
use Rattle.std.proofs.lemmas.Bool.Decides.{nat_tests}
use Rattle.hv_lex.specs.Numbers.{digit_in, spelled_from, fitting, number_in}

fits_not : (n : ℕ) → 2 ^ 32 ≤ n → fitting n ≡ None
fits_not n big = grind (arith, nat_tests)

pub fits : (n : ℕ) → n < 2 ^ 32 → fitting n ≡ Some n
fits n small = grind (arith, nat_tests)

pub number_none : (b : ℕ) (s : List ℕ) → length s ≡ 0 → None ≡ number_in b s
unfolding number_in
number_none b s none = sym (ap (λ t. cond t None (option_and_then fitting (spelled_from b 0 s))) (eq-eqb (length s) 0 none))

pub number_is : (b : ℕ) (s : List ℕ) → nat_eq (length s) 0 ≡ false → number_in b s ≡ option_and_then fitting (spelled_from b 0 s)
unfolding number_in
number_is b s some = ap (λ t. cond t None (option_and_then fitting (spelled_from b 0 s))) some

-- a number that is too large stays so, whatever digits follow
grows : (b v : ℕ) (cs : List ℕ) → 1 ≤ b → 2 ^ 32 ≤ v → option_and_then fitting (spelled_from b v cs) ≡ None
grows b v [] one big = fits_not v big
grows b v (c ∷ cs) one big =
    elim (digit_in b c) as (λ o. option_and_then fitting (option_and_then (λ d. spelled_from b (v * b + d) cs) o) ≡ None)
    [ None ↦ refl | Some d ↦ grows b (v * b + d) cs one (omega (arith, mul-le-mul_left v one)) ]

next : (b v i : ℕ) (s : List ℕ) → i < length s → spelled_from b v (drop i s) ≡ option_and_then (λ d. spelled_from b (v * b + d) (drop (suc i) s)) (digit_in b (get_or s i 0))
next b v i s lt = ap (spelled_from b v) (drop-cons s i 0 lt)

-- a byte that is no digit
pub number_stops : (b v i : ℕ) (s : List ℕ) → nat_eq (length s) 0 ≡ false → i < length s → spelled_from b v (drop i s) ≡ spelled_from b 0 s → digit_in b (get_or s i 0) ≡ None → None ≡ number_in b s
number_stops b v i s some lt rest none =
    sym (number_is b s some ∙ ap (option_and_then fitting) (sym rest ∙ next b v i s lt ∙ ap (option_and_then (λ d. spelled_from b (v * b + d) (drop (suc i) s))) none))

-- a digit with which the number is too large
pub number_over : (b v i d : ℕ) (s : List ℕ) → 1 ≤ b → nat_eq (length s) 0 ≡ false → i < length s → spelled_from b v (drop i s) ≡ spelled_from b 0 s → digit_in b (get_or s i 0) ≡ Some d → 2 ^ 32 ≤ v * b + d → None ≡ number_in b s
number_over b v i d s one some lt rest found big =
    sym (number_is b s some
    ∙ ap (option_and_then fitting) (sym rest ∙ next b v i s lt ∙ ap (option_and_then (λ d. spelled_from b (v * b + d) (drop (suc i) s))) found)
    ∙ grows b (v * b + d) (drop (suc i) s) one big)

-- the end of the digits
pub number_ends : (b v i : ℕ) (s : List ℕ) → nat_eq (length s) 0 ≡ false → length s ≤ i → v < 2 ^ 32 → spelled_from b v (drop i s) ≡ spelled_from b 0 s → Some v ≡ number_in b s
number_ends b v i s some end small rest =
    sym (number_is b s some ∙ ap (option_and_then fitting) (sym rest ∙ ap (spelled_from b v) (drop_all i s end)) ∙ fits v small)
