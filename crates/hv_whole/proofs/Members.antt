-- Lists of numbers: what is in them, and that nothing stands in them twice.
use Rattle.std.proofs.Common.{◌≡◌, ◌≢◌, ℕ, zero, suc, ◌+◌, ◌<◌, ◌≤◌, ◌⊎◌, inl, inr, Bool, true, false, not, ◌&&◌, List, [], ◌∷◌, ◌++◌, map, Some, refl, ap, ◌∙◌, arith, slice_get}
use Rattle.std.specs.Prelude.{◌==◌}
use Rattle.std.specs.List.{range_with_len, flat_map}
use Rattle.std.proofs.lemmas.Bool.{and_parts, not-true, eq-eqb, eqb-true, or_left, or_right, or_cases, false≢true}
use Rattle.std.proofs.lemmas.Bool.Decides.{eqb_tells}
use Rattle.std.proofs.lemmas.Option.{same_Some}
use Rattle.hv_word.specs.Words.{has}
use Rattle.hv_map.specs.Apart.{are_distinct}
use Rattle.hv_nest.specs.Watched.{without, are_same}
use Rattle.std.specs.Prelude.{slice_index}

-- a is one of a list
abbrev pub Has : ℕ → List ℕ → Type 0
Has a [] = ⊥
Has a (b ∷ bs) = (a ≡ b) ⊎ Has a bs

has_true : (a : ℕ) (xs : List ℕ) → Has a xs → has a xs ≡ true
has_true a [] h = absurd h
has_true a (b ∷ bs) (inl e) = or_left (a == b) (has a bs) (eq-eqb a b e)
has_true a (b ∷ bs) (inr h) = or_right (a == b) (has a bs) (has_true a bs h)

true_has : (a : ℕ) (xs : List ℕ) → has a xs ≡ true → Has a xs
true_has a [] h = absurd (false≢true h)
true_has a (b ∷ bs) h = elim (or_cases (a == b) (has a bs) h) [ inl e ↦ inl (eqb-true a b e) | inr e ↦ inr (true_has a bs e) ]

pub has_left : (a : ℕ) (xs ys : List ℕ) → Has a xs → Has a (xs ++ ys)
has_left a [] ys h = absurd h
has_left a (x ∷ xs) ys (inl e) = inl e
has_left a (x ∷ xs) ys (inr h) = inr (has_left a xs ys h)

pub has_right : (a : ℕ) (xs ys : List ℕ) → Has a ys → Has a (xs ++ ys)
has_right a [] ys h = h
has_right a (x ∷ xs) ys h = inr (has_right a xs ys h)

-- in a list that is joined of lists, one for each number of a range, or for each item of a list
pub has_range : (f : ℕ → List ℕ) (a n i k : ℕ) → a ≤ i → i < a + n → Has k (f i) → Has k (flat_map f (range_with_len a n))
has_range f a zero i k low high h = absurd (omega arith)
has_range f a (suc n) i k low high h = elim (eqb_tells i a) [
  | inl e ↦ has_left k (f a) (flat_map f (range_with_len (a + 1) n)) (rw (← e.1) h)
  | inr e ↦
      let ne : i ≢ a = e.1 in
      has_right k (f a) (flat_map f (range_with_len (a + 1) n)) (has_range f (a + 1) n i k (omega arith) (omega arith) h)
]

pub has_each : (X : Type 0) (f : X → List ℕ) (xs : List X) (i k : ℕ) (x : X) → slice_get xs i ≡ Some x → Has k (f x) → Has k (flat_map f xs)
has_each X f [] i k x is h = absurd (cc)
has_each X f (y ∷ ys) zero k x is h = has_left k (f y) (flat_map f ys) (rw (same_Some y x is) h)
has_each X f (y ∷ ys) (suc i) k x is h = has_right k (f y) (flat_map f ys) (has_each X f ys i k x is h)

pub has_below : (a n i : ℕ) → a ≤ i → i < a + n → Has i (range_with_len a n)
has_below a zero i low high = absurd (omega arith)
has_below a (suc n) i low high = elim (eqb_tells i a) [
  | inl e ↦ inl e.1
  | inr e ↦
      let ne : i ≢ a = e.1 in
      inr (has_below (a + 1) n i (omega arith) (omega arith))
]

pub has_mapped : (f : ℕ → ℕ) (k : ℕ) (ks : List ℕ) → Has k ks → Has (f k) (map f ks)
has_mapped f k [] h = absurd h
has_mapped f k (n ∷ ks) (inl e) = inl (ap f e)
has_mapped f k (n ∷ ks) (inr h) = inr (has_mapped f k ks h)

-- in a list without another number
pub has_still : (a b : ℕ) (xs : List ℕ) → a ≢ b → Has a xs → Has a (without b xs)
unfolding without
has_still a b [] ne h = h
has_still a b (x ∷ xs) ne h =
    let rest : Has a xs → Has a (without b xs) = (λ k. has_still a b xs ne k) in
    elim (eqb_tells x b) [
      | inl e ↦ rw e.0 (elim h [ inl f ↦ absurd (ne (f ∙ e.1)) | inr f ↦ rest f ])
      | inr e ↦ rw e.0 (elim h [ inl f ↦ inl f | inr f ↦ inr (rest f) ])
    ]

-- two lists, one after the other, in which nothing stands twice
pub record Parted (xs ys : List ℕ) : Type 0 where
  pub first : are_distinct xs ≡ true
  pub last : are_distinct ys ≡ true
  pub apart : (a : ℕ) → Has a xs → Has a ys → ⊥

pub parted : (xs ys : List ℕ) → are_distinct (xs ++ ys) ≡ true → Parted xs ys
unfolding are_distinct
parted [] ys e = record { first = refl; last = e; apart = λ a h k. h }
parted (x ∷ xs) ys e =
    let both = and_parts (not (has x (xs ++ ys))) (are_distinct (xs ++ ys)) e in
    let more = parted xs ys both.1 in
    let none : (a : ℕ) → a ≡ x → Has a (xs ++ ys) → ⊥ = (λ a f h. out (has x (xs ++ ys)) both.0 (has_true x (xs ++ ys) (rw (← f) h))) in
    record {
      first = made (has x xs) (are_distinct xs) (λ t. none x refl (has_left x xs ys (true_has x xs t))) more.first;
      last = more.last;
      apart = λ a h k. by none more.apart a h k;
    }
  where
    out : (t : Bool) → not t ≡ true → t ≡ true → ⊥
    out t e f = let g : t ≡ false = not-true t e in cc

    made : (t d : Bool) → ((t ≡ true) → ⊥) → d ≡ true → (not t && d) ≡ true
    made true d f e = absurd (f refl)
    made false d f e = e

    by : ((a : ℕ) → a ≡ x → Has a (xs ++ ys) → ⊥) → ((a : ℕ) → Has a xs → Has a ys → ⊥) → (a : ℕ) → (a ≡ x) ⊎ Has a xs → Has a ys → ⊥
    by none apart a (inl f) k = none a f (has_right a xs ys k)
    by none apart a (inr h) k = apart a h k

-- the words at those places are the same
pub same_places : (ft S T : List ℕ) (a : ℕ) → are_same ft S T ≡ true → Has a ft → slice_index S a ≡ slice_index T a
unfolding are_same
same_places [] S T a e h = absurd h
same_places (b ∷ bs) S T a e (inl f) =
    let t = (and_parts (slice_index S b == slice_index T b) (are_same bs S T) e).0 in
    rw f (eqb-true (slice_index S b) (slice_index T b) t)
same_places (b ∷ bs) S T a e (inr h) = same_places bs S T a (and_parts (slice_index S b == slice_index T b) (are_same bs S T) e).1 h

-- in a list that is joined of lists, one for each number of a list
pub has_joined : (f : ℕ → List ℕ) (xs : List ℕ) (x k : ℕ) → Has x xs → Has k (f x) → Has k (flat_map f xs)
has_joined f [] x k h e = absurd h
has_joined f (y ∷ ys) x k (inl h) e = has_left k (f y) (flat_map f ys) (rw (← h) e)
has_joined f (y ∷ ys) x k (inr h) e = has_right k (f y) (flat_map f ys) (has_joined f ys x k h e)
