-- What was passed where something was given.
use Rattle.std.proofs.Common.{◌≡◌, ℕ, zero, suc, ◌+◌, Bool, true, false, cond, List, [], ◌∷◌, ◌++◌, Option, Some, None, Result, Ok, Err, refl, ap, ◌∙◌, arith}
use Rattle.std.specs.List.{range_with_len}
use Rattle.std.specs.Str.{bytes_eq}
use Rattle.hv_load.specs.declared.ends.BuildKind.{BuildKind}
use Rattle.hv_load.specs.declared.ends.BuildKind.TheVariants as kind
use Rattle.hv_load.specs.Building.{Known, known, known_as, named}
use Rattle.hv_load.specs.Pages.{each_from}
use Rattle.hv_lex.specs.Refusing.{◌>>=◌, at_line}

failed : {B E : Type 0} (why : E) (y : B) (r : Result B E) → r ≡ Err why → r ≡ Ok y → ⊥
failed why y r e o = cc

pub same_ok : {B E : Type 0} (x y : B) (r : Result B E) → r ≡ Ok x → r ≡ Ok y → x ≡ y
same_ok x y r e o = cc

pub never_ok : {B E : Type 0} (why : E) (y : B) → Err why ≡ Ok y → ⊥
never_ok why y e = cc

pub bound : {A B : Type 0} (r : Result A BuildKind) (f : A → Result B BuildKind) (y : B) → (r >>= f) ≡ Ok y → (x : A) × (r ≡ Ok x) × (f x ≡ Ok y)
bound (Ok x) f y is = (x, refl, is)
bound (Err why) f y is = absurd (failed why y (Err why) refl is)

pub chosen : {B : Type 0} (c : Bool) (r : Result B BuildKind) (why : BuildKind) (y : B) → cond c r (Err why) ≡ Ok y → (c ≡ true) × (r ≡ Ok y)
chosen true r why y is = (refl, is)
chosen false r why y is = absurd (failed why y (Err why) refl is)

pub passed : {B : Type 0} (c : Bool) (r : Result B BuildKind) (why : BuildKind) (y : B) → cond c (Err why) r ≡ Ok y → (c ≡ false) × (r ≡ Ok y)
passed true r why y is = absurd (failed why y (Err why) refl is)
passed false r why y is = (refl, is)

pub line_bound : {A : Type 0} (line : ℕ) (r : Result A BuildKind) (y : A) → at_line line r ≡ Ok y → r ≡ Ok y
line_bound line (Ok x) y is = ap (λ (x : _). Ok x) (same_ok x y (at_line line (Ok x)) refl is)
line_bound line (Err why) y is = absurd (failed (line, why) y (at_line line (Err why)) refl is)

pub then_bound : {A B : Type 0} (r : Result A (ℕ × BuildKind)) (f : A → Result B (ℕ × BuildKind)) (y : B) → (r >>= f) ≡ Ok y → (x : A) × (r ≡ Ok x) × (f x ≡ Ok y)
then_bound (Ok x) f y is = (x, refl, is)
then_bound (Err end) f y is = absurd (failed end y (Err end) refl is)

-- numbers that are found one after another, where each lies as far behind a base
pub each_is : (f : ℕ → Result ℕ BuildKind) (base first n : ℕ) (gs : List ℕ) → ((i g : ℕ) → f i ≡ Ok g → g ≡ base + i) → each_from f first n ≡ Ok gs → gs ≡ range_with_len (base + first) n
each_is f base first zero gs one is = same_ok gs [] (each_from f first zero) is refl
each_is f base first (suc n) gs one is =
    let here = bound (f first) (λ g. each_from f (first + 1) n >>= λ gs. Ok (g ∷ gs)) gs is in
    let rest = bound (each_from f (first + 1) n) (λ gs. Ok (here.0 ∷ gs)) gs here.2 in
    let next : base + (first + 1) ≡ base + first + 1 = omega arith in
    same_ok gs (here.0 ∷ rest.0) (let r : Result (List ℕ) BuildKind = Ok (here.0 ∷ rest.0) in r) rest.2 refl
    ∙ ap (λ (g : ℕ). g ∷ rest.0) (one first here.0 here.1)
    ∙ ap (λ (gs : List ℕ). (base + first) ∷ gs) (each_is f base (first + 1) n rest.0 one rest.1)
    ∙ ap (λ (k : ℕ). (base + first) ∷ range_with_len k n) next

-- names that grow at their end
or_last : Option Known → Option Known → Option Known
or_last None o = o
or_last (Some k) o = Some k

last_of : List ℕ → Known → Option Known
last_of name x = cond (bytes_eq x.name name) (Some x) None

named-push : (name : List ℕ) (ks : List Known) (x : Known) → named name (ks ++ x ∷ []) ≡ or_last (named name ks) (last_of name x)
unfolding or_last last_of
named-push name [] x = refl
named-push name (y ∷ ks) x = by (bytes_eq y.name name) (named-push name ks x)
  where
    by : (b : Bool) → named name (ks ++ x ∷ []) ≡ or_last (named name ks) (last_of name x) → cond b (Some y) (named name (ks ++ x ∷ [])) ≡ or_last (cond b (Some y) (named name ks)) (last_of name x)
    by true e = refl
    by false e = e

none_known : (k : Known) → known_as None ≡ Ok k → ⊥
none_known k e = never_ok kind.Unknown k e

kept_by : (o last : Option Known) (k : Known) → known_as o ≡ Ok k → known_as (or_last o last) ≡ Ok k
unfolding or_last
kept_by None last k is = absurd (none_known k is)
kept_by (Some y) last k is = is

pub named_kept : (name : List ℕ) (ks : List Known) (x k : Known) → known name ks ≡ Ok k → known name (ks ++ x ∷ []) ≡ Ok k
named_kept name ks x k is = ap known_as (named-push name ks x) ∙ kept_by (named name ks) (last_of name x) k is

pub named_last : (name : List ℕ) (ks : List Known) (x : Known) → named name ks ≡ None → bytes_eq x.name name ≡ true → known name (ks ++ x ∷ []) ≡ Ok x
unfolding or_last last_of
named_last name ks x none same =
    ap known_as (named-push name ks x)
    ∙ ap (λ (o : Option Known). known_as (or_last o (last_of name x))) none
    ∙ ap (λ (b : Bool). known_as (cond b (Some x) None)) same

pub named_none : (name : List ℕ) (ks : List Known) (x : Known) → named name ks ≡ None → bytes_eq x.name name ≡ false → named name (ks ++ x ∷ []) ≡ None
unfolding or_last last_of
named_none name ks x none other =
    named-push name ks x
    ∙ ap (λ (o : Option Known). or_last o (last_of name x)) none
    ∙ ap (λ (b : Bool). cond b (Some x) None) other
