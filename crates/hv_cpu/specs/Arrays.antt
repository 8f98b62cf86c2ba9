-- Nothing of a hart is lost where it is seen as 50 words: what it is made of comes back.
use Rattle.std.proofs.Common.{◌≡◌, ◌≢◌, ℕ, zero, suc, List, [], ◌∷◌, length, get_or, Option, None, Some}
use Rattle.std.proofs.Common.{refl, sym, ap, ◌∙◌}
use Rattle.hv_cpu.specs.declared.Cpu.TheInside.{Inside}
use Rattle.hv_cpu.specs.declared.Mode.{Mode}
use Rattle.hv_cpu.specs.declared.Mode.TheVariants.{U, S, M}
use Rattle.hv_cpu.specs.Modes.{mode_word, mode_of}
use Rattle.hv_cpu.specs.Regs.{file_of}
use Rattle.hv_cpu.specs.View.{regs_of, next_word, next_of, inside, Inv}

-- n elements of a list, from place i on
elements : List ℕ → ℕ → ℕ → List ℕ
elements xs i zero = []
elements xs i (suc n) = get_or xs i 0 ∷ elements xs (suc i) n

elements-cons : (x : ℕ) (xs : List ℕ) (i n : ℕ) → elements (x ∷ xs) (suc i) n ≡ elements xs i n
unfolding elements
elements-cons x xs i zero = refl
elements-cons x xs i (suc n) = ap (λ (l : List ℕ). get_or xs i 0 ∷ l) (elements-cons x xs (suc i) n)

elements_all : (xs : List ℕ) → elements xs 0 (length xs) ≡ xs
unfolding elements
elements_all [] = refl
elements_all (x ∷ xs) = ap (λ (l : List ℕ). x ∷ l) (elements-cons x xs 0 (length xs) ∙ elements_all xs)

-- x0, which is 0, and x1 to x31 are the array
pub file_is : (a : Inside) → Inv a → file_of (regs_of a) ≡ a.x
unfolding elements
file_is a h =
    ap (λ (z : ℕ). z ∷ elements a.x 1 31) (sym h.zero)
    ∙ ap (λ (n : ℕ). elements a.x 0 n) (sym h.count)
    ∙ elements_all a.x

mode_back : (m : Mode) → mode_of (mode_word m) ≡ m
mode_back U = refl
mode_back S = refl
mode_back M = refl

next_back : (n : Option ℕ) → n ≢ Some 0 → next_of (next_word n) ≡ n
next_back None h = refl
next_back (Some zero) h = absurd (h refl)
next_back (Some (suc n)) h = refl

-- nothing of a hart is lost in the view
pub inside_is : (a : Inside) → Inv a → inside (regs_of a) ≡ a
inside_is a h = λ i. record a {
  x = file_is a h i;
  mode = mode_back a.mode i;
  next = next_back a.next h.no_zero i;
}
