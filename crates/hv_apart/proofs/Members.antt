-- What is in lists of numbers in which nothing stands twice.
use Rattle.std.proofs.Common.{◌≡◌, ◌≢◌, ℕ, zero, suc, ◌+◌, ◌<◌, ◌≤◌, inl, inr, true, false, not, ◌==◌, List, [], ◌∷◌, ◌++◌, refl, ap, ◌∙◌, sym, arith}
use Rattle.std.specs.List.{range_with_len, flat_map}
use Rattle.std.proofs.lemmas.Bool.{and_from, and_parts, cases_order, eq-eqb, eqb-true, false≢true, not-true, or_cases, or_left, or_parts, or_right}
use Rattle.std.proofs.lemmas.Bool.Decides.{eqb_tells}
use Rattle.hv_word.specs.Words.{has}
use Rattle.hv_map.specs.Apart.{are_distinct}
use Rattle.hv_apart.proofs.Lists.{has-append}

pub has_one : (a : ℕ) → has a (a ∷ []) ≡ true
has_one a = or_left (a == a) false (eq-eqb a a refl)

pub has_left : (a : ℕ) (xs ys : List ℕ) → has a xs ≡ true → has a (xs ++ ys) ≡ true
has_left a xs ys h = has-append a xs ys ∙ or_left (has a xs) (has a ys) h

pub has_right : (a : ℕ) (xs ys : List ℕ) → has a ys ≡ true → has a (xs ++ ys) ≡ true
has_right a xs ys h = has-append a xs ys ∙ or_right (has a xs) (has a ys) h

-- in a list that is joined of lists, one for each number of a range
pub has_range : (f : ℕ → List ℕ) (a n i p : ℕ) → a ≤ i → i < a + n → has p (f i) ≡ true → has p (flat_map f (range_with_len a n)) ≡ true
has_range f a zero i p low high h = absurd (omega arith)
has_range f a (suc n) i p low high h = elim (eqb_tells i a) [
  | inl e ↦ has_left p (f a) (flat_map f (range_with_len (a + 1) n)) (ap (λ (k : ℕ). has p (f k)) (sym e.1) ∙ h)
  | inr e ↦
      let ne : i ≢ a = e.1 in
      has_right p (f a) (flat_map f (range_with_len (a + 1) n)) (has_range f (a + 1) n i p (omega arith) (omega arith) h)
]

-- two lists, one after the other, in which nothing stands twice
pub record Parted (xs ys : List ℕ) : Type 0 where
  pub first : are_distinct xs ≡ true
  pub last : are_distinct ys ≡ true
  pub apart : (a : ℕ) → has a xs ≡ true → has a ys ≡ true → ⊥

pub parted : (xs ys : List ℕ) → are_distinct (xs ++ ys) ≡ true → Parted xs ys
unfolding are_distinct
parted [] ys e = record { first = refl; last = e; apart = λ a h k. false≢true h }
parted (x ∷ xs) ys e =
    let both = and_parts (not (has x (xs ++ ys))) (are_distinct (xs ++ ys)) e in
    let none : has x (xs ++ ys) ≡ false = not-true (has x (xs ++ ys)) both.0 in
    let parts = or_parts (has x xs) (has x ys) (sym (has-append x xs ys) ∙ none) in
    let more = parted xs ys both.1 in
    record {
      first = and_from (not (has x xs)) (are_distinct xs) (ap not parts.0) more.first;
      last = more.last;
      apart = λ a h k. elim (or_cases (a == x) (has a xs) h) [
        | inl e ↦ false≢true (sym parts.1 ∙ ap (λ (b : ℕ). has b ys) (sym (eqb-true a x e)) ∙ k)
        | inr g ↦ more.apart a g k
      ];
    }

-- a number is in no two lists of which such a list is joined
range_apart : (f : ℕ → List ℕ) (a n i k p : ℕ) → are_distinct (flat_map f (range_with_len a n)) ≡ true → a ≤ i → i < k → k < a + n → has p (f i) ≡ true → has p (f k) ≡ true → ⊥
range_apart f a zero i k p d low lt high h g = absurd (omega arith)
range_apart f a (suc n) i k p d low lt high h g =
    let q = parted (f a) (flat_map f (range_with_len (a + 1) n)) d in
    elim (eqb_tells i a) [
      | inl e ↦
          q.apart p (ap (λ (m : ℕ). has p (f m)) (sym e.1) ∙ h) (has_range f (a + 1) n k p (omega (arith, e.1)) (omega arith) g)
      | inr e ↦
          let ne : i ≢ a = e.1 in
          range_apart f (a + 1) n i k p q.last (omega arith) lt (omega arith) h g
    ]

pub range_one : (f : ℕ → List ℕ) (n i k p : ℕ) → are_distinct (flat_map f (range_with_len 0 n)) ≡ true → i < n → k < n → has p (f i) ≡ true → has p (f k) ≡ true → i ≡ k
range_one f n i k p d low high h g = elim (cases_order i k) [
  | inl e ↦ e
  | inr (inl lt) ↦ absurd (range_apart f 0 n i k p d (omega arith) lt (omega arith) h g)
  | inr (inr gt) ↦ absurd (range_apart f 0 n k i p d (omega arith) gt (omega arith) g h)
]
