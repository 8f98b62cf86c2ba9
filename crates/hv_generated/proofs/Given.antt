-- What is given where a test is passed.
use Rattle.std.proofs.Common.{◌≡◌, ℕ, zero, suc, ◌+◌, ◌*◌, ◌/◌, ◌%◌, ◌<◌, Bool, true, false, cond, List, ◌∷◌, Result, Ok, Err, refl, ap, ◌∙◌, sym, arith}
use Rattle.std.specs.List.{range_with_len}
use Rattle.std.proofs.lemmas.Bool.{true≢false}
use Rattle.hv_load.specs.declared.ends.BuildKind.{BuildKind}
use Rattle.hv_load.specs.Pages.{each_from, place_by}
use Rattle.hv_lex.specs.Refusing.{◌>>=◌}

pub not_refused : {B : Type 0} (c : Bool) (why : BuildKind) (r : Result B BuildKind) (y : B) → c ≡ false → r ≡ Ok y → cond c (Err why) r ≡ Ok y
not_refused true why r y test is = absurd (true≢false test)
not_refused false why r y test is = is

pub allowed : {B : Type 0} (c : Bool) (why : BuildKind) (r : Result B BuildKind) (y : B) → c ≡ true → r ≡ Ok y → cond c r (Err why) ≡ Ok y
allowed true why r y test is = is
allowed false why r y test is = absurd (true≢false (sym test))

pub goes_on : {A B : Type 0} (r : Result A BuildKind) (f : A → Result B BuildKind) (x : A) (y : B) → r ≡ Ok x → f x ≡ Ok y → (r >>= f) ≡ Ok y
goes_on r f x y is then = ap (λ (r : Result _ BuildKind). r >>= f) is ∙ then

-- numbers that are found one after another, where each lies as far behind a base
pub each_found : (f : ℕ → Result ℕ BuildKind) (base first n : ℕ) → ((i : ℕ) → i < first + n → f i ≡ Ok (base + i)) → each_from f first n ≡ Ok (range_with_len (base + first) n)
each_found f base first zero one = refl
each_found f base first (suc n) one =
    let next : base + (first + 1) ≡ base + first + 1 = omega arith in
    let rest = each_found f base (first + 1) n (λ i lt. one i (omega (arith, lt))) in
    goes_on (f first) (λ g. each_from f (first + 1) n >>= λ gs. Ok (g ∷ gs)) (base + first) (range_with_len (base + first) (suc n)) (one first (omega arith))
    (goes_on (each_from f (first + 1) n) (λ gs. Ok ((base + first) ∷ gs)) (range_with_len (base + (first + 1)) n) (range_with_len (base + first) (suc n)) rest
    (ap (λ (k : ℕ). let r : Result (List ℕ) BuildKind = Ok ((base + first) ∷ range_with_len k n) in r) next))

-- the place of a word of the first page
pub place_found : (find : ℕ → Result ℕ BuildKind) (base q : ℕ) → find 0 ≡ Ok base → q < 1024 → place_by find q ≡ Ok (1024 * base + q)
place_found find base q first lt =
    let page : q / 1024 ≡ 0 = omega (arith, lt) in
    let place : 1024 * base + q % 1024 ≡ 1024 * base + q = omega (arith, lt) in
    goes_on (find (q / 1024)) (λ g. Ok (1024 * g + q % 1024)) base (1024 * base + q) (ap find page ∙ first)
    (ap (λ (k : ℕ). let r : Result ℕ BuildKind = Ok k in r) place)
