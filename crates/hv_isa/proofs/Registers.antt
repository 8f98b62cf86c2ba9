-- Each name of a register is that of one number, and each number has one name.
use Rattle.std.proofs.Common.{subst, ℕ, ◌≡◌, ◌≢◌, Bool, true, false, cond, List, [], ◌∷◌, Option, Some, None, refl, sym, ap, ◌∙◌, IfSome, IfNone, nat_eq}
use Rattle.std.specs.Prelude.{find}
use Rattle.std.specs.List.{AllByRecursion}
use Rattle.std.specs.Option.{option_map, option_copied}
use Rattle.std.specs.Str.{bytes_eq}
use Rattle.std.proofs.lemmas.Bool.{false_from_ne_true}
use Rattle.std.proofs.lemmas.Bool.Decides.{Decides-eqb}
use Rattle.std.proofs.lemmas.Slice.Eq.{bytes_eq-Decides}
use Rattle.std.specs.Borrow.{Bor}
use Rattle.hv_isa.specs.Csrs.{csrs, csr_name_of, csr_number_of, LacksName}

-- what is found is in the list
found_has : {X : Type 0} (P : X → Type 0) (p : X → Bool) (xs : List X) (x : X) → AllByRecursion P xs → find p xs ≡ Some x → P x
found_has P p [] x all is = cc
found_has {X} P p (y ∷ ys) x all is =
    let again : (b : Bool) → p y ≡ b → cond b (Some y) (find p ys) ≡ Some x → P x =
    λ b e is. elim b as (λ b. cond b (Some y) (find p ys) ≡ Some x → P x)
    [ true ↦ λ is. let same : y ≡ x = cc in subst P same all.0 | false ↦ λ is. found_has P p ys x all.1 is ] is
    in again (p y) refl is

each_row : AllByRecursion (λ row. csr_number_of row.1 ≡ Some row.0) csrs
unfolding csr_number_of
each_row = ((refl, (refl, (refl, (refl, (refl, (refl, (refl, (refl, (refl, (refl, (refl, (refl, (refl, (refl, (refl, (refl, (refl, (refl, (refl, (refl, (refl, (refl, (refl, (refl, (refl, (refl, (refl, tt))))))))))))))))))))))))))))

mapped : {X Y : Type 0} (f : X → Y) (o : Option X) (y : Y) → option_map f o ≡ Some y → (x : X) × (o ≡ Some x) × (f x ≡ y)
mapped f (Some x) y is = let e : f x ≡ y = cc in (x, refl, e)
mapped f None y is = cc

found_is : {X : Type 0} (p : X → Bool) (xs : List X) (x : X) → find p xs ≡ Some x → p x ≡ true
found_is p [] x is = cc
found_is {X} p (y ∷ ys) x is =
    let again : (b : Bool) → p y ≡ b → cond b (Some y) (find p ys) ≡ Some x → p x ≡ true =
    λ b e is. elim b as (λ b. p y ≡ b → cond b (Some y) (find p ys) ≡ Some x → p x ≡ true)
    [ true ↦ λ e is. let same : y ≡ x = cc in ap p (sym same) ∙ e | false ↦ λ e is. found_is p ys x is ] e is
    in again (p y) refl is

pub number_again : (n : ℕ) (text : List ℕ) → csr_name_of n ≡ Some text → csr_number_of text ≡ Some n
unfolding csr_name_of
number_again n text is =
    let row = mapped (λ (row : ℕ × List ℕ). row.1) (find (λ row. nat_eq row.0 n) csrs) text is in
    let same : row.0.0 ≡ n = (Decides-eqb _ _).0 (found_is (λ (row : ℕ × List ℕ). nat_eq row.0 n) csrs row.0 row.1) in
    ap csr_number_of (sym row.2) ∙ found_has (λ (row : ℕ × List ℕ). csr_number_of row.1 ≡ Some row.0) (λ (row : ℕ × List ℕ). nat_eq row.0 n) csrs row.0 each_row row.1 ∙ ap Some same

lacks : (text : List ℕ) (rows : List (ℕ × List ℕ)) → AllByRecursion (λ row. text ≢ row.1) rows → find (λ row. bytes_eq row.1 text) rows ≡ None
lacks text [] none = refl
lacks text (row ∷ rows) none = ap (λ b. cond b (Some row) (find (λ row. bytes_eq row.1 text) rows)) (false_from_ne_true _ (λ e. none.0 (sym ((bytes_eq-Decides row.1 text).0 e)))) ∙ lacks text rows none.1

pub number_lacks : (text : List ℕ) → LacksName text → csr_number_of text ≡ None
unfolding csr_number_of
number_lacks text none = ap (option_map (λ (row : ℕ × List ℕ). row.0)) (lacks text csrs none)

pub number_is : (text : List ℕ) (o : Option ℕ) → IfSome o (λ n. csr_name_of n ≡ Some text) → IfNone o (LacksName text) → o ≡ csr_number_of text
number_is text (Some n) found none = sym (number_again n text found)
number_is text None found none = sym (number_lacks text none)

pub back_again : (n : ℕ) (o : Option (Bor (List ℕ))) → option_copied o ≡ csr_name_of n → IfSome o (λ name. csr_number_of name.now ≡ Some n)
back_again n (Some name) is = number_again n name.now (sym is)
back_again n None is = tt
