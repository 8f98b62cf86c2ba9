-- The first and the last of a list, as many as n, with one more at its end.
use Rattle.std.proofs.Common.{◌≡◌, ℕ, ◌+◌, ◌-◌, ◌<◌, ◌≤◌, ◌⊎◌, inl, inr, List, [], ◌∷◌, ◌++◌, length, take, drop, sym, ap, ◌∙◌, arith, length-drop}
use Rattle.std.proofs.lemmas.List.{take_all, take-take, take-append-le, drop-append-le, drop-drop, length_push, length-take-le}

reaches : (n m : ℕ) → (n ≤ m) ⊎ (m < n)
reaches n m = grind arith

first_long : {X : Type 0} (n : ℕ) (xs : List X) (x : X) → n ≤ length xs → take n (take n xs ++ x ∷ []) ≡ take n (xs ++ x ∷ [])
first_long n xs x le =
    take-append-le n (take n xs) (x ∷ []) (omega (arith, length-take-le n xs le))
    ∙ take-take n n xs (omega arith)
    ∙ sym (take-append-le n xs (x ∷ []) le)

pub first_pushed : {X : Type 0} (n : ℕ) (xs : List X) (x : X) → take n (take n xs ++ x ∷ []) ≡ take n (xs ++ x ∷ [])
first_pushed n xs x =
    elim (reaches n (length xs)) [
      | inl le ↦ first_long n xs x le
      | inr lt ↦ ap (λ ys. take n (ys ++ x ∷ [])) (take_all n xs (omega arith))
    ]

abbrev last : {X : Type 0} → ℕ → List X → List X
last n xs = drop (length xs - n) xs

last_long : {X : Type 0} (n m : ℕ) (xs : List X) (x : X) → length xs ≡ n + m → last n (drop m xs ++ x ∷ []) ≡ last n (xs ++ x ∷ [])
last_long n m xs x e =
    let one : length (drop m xs ++ x ∷ []) - n ≡ 1 = omega (arith, length_push (drop m xs) x, length-drop m xs) in
    let more : m + 1 ≡ length (xs ++ x ∷ []) - n = omega (arith, length_push xs x) in
    ap (λ (k : ℕ). drop k (drop m xs ++ x ∷ [])) one
    ∙ ap (λ ys. drop 1 ys) (sym (drop-append-le m xs (x ∷ []) (omega arith)))
    ∙ drop-drop 1 m (xs ++ x ∷ [])
    ∙ ap (λ (k : ℕ). drop k (xs ++ x ∷ [])) more

pub last_pushed : {X : Type 0} (n : ℕ) (xs : List X) (x : X) → last n (last n xs ++ x ∷ []) ≡ last n (xs ++ x ∷ [])
last_pushed n xs x =
    elim (reaches n (length xs)) [
      | inl le ↦ last_long n (length xs - n) xs x (omega arith)
      | inr lt ↦ let none : length xs - n ≡ 0 = omega arith in ap (λ (k : ℕ). last n (drop k xs ++ x ∷ [])) none
    ]
