-- A foot is changed exactly where one of the words that differ is marked.
use Rattle.std.proofs.Common.{◌≡◌, ◌≢◌, ℕ, zero, suc, ◌+◌, ◌<◌, ◌≤◌, nat_eq, Bool, true, false, not, ◌&&◌, ◌||◌, cond, ◌⊎◌, inl, inr, List, [], ◌∷◌, ◌++◌, length, slice_index, refl, sym, ap, ◌∙◌, arith, eq-eqb}
use Rattle.std.specs.List.{range_with_len, flat_map}
use Rattle.std.proofs.lemmas.List.{get_or_past}
use Rattle.std.proofs.lemmas.Bool.{false≢true, eqb-true, cases_Bool, cases_lt}
use Rattle.hv_word.specs.Words.{has}
use Rattle.hv_nest.specs.declared.changed.ChangedRow.{ChangedRow}
use Rattle.hv_nest.specs.Changes.{difference_at, differences, differences_to}
use Rattle.hv_nest.specs.Watched.{are_same}
use Rattle.hv_apart.specs.Marked.{is_marked, SetOf}
use Rattle.hv_run.specs.Play.{any_marked}

abbrev same_at : List ℕ → List ℕ → ℕ → Bool
same_at S T a = nat_eq (slice_index S a) (slice_index T a)

clash : {b : Bool} → b ≡ false → b ≡ true → ⊥
clash p q = false≢true (sym p ∙ q)

-- a word of the list differs, or all are the same
abbrev Differs : List ℕ → List ℕ → List ℕ → Type 0
Differs ft S T = (a : ℕ) × (has a ft ≡ true) × (same_at S T a ≡ false)

kept_later : (a : ℕ) (ft S T : List ℕ) → Differs ft S T → Differs (a ∷ ft) S T
kept_later a ft S T d = (d.0, grind (arith, d.1), d.2)

one_differs : (ft S T : List ℕ) → are_same ft S T ≡ false → Differs ft S T
unfolding are_same
one_differs [] S T e = cc
one_differs (a ∷ ft) S T e =
    elim (cases_Bool (same_at S T a)) [
      | inr differ ↦ (a, ap (λ (b : Bool). b || has a ft) (eq-eqb a a refl), differ)
      | inl agree ↦ kept_later a ft S T (one_differs ft S T (ap (λ (b : Bool). b && are_same ft S T) (sym agree) ∙ e))
    ]

both : (x y : Bool) → (x && y) ≡ true → (x ≡ true) × (y ≡ true)
both true true e = (refl, refl)
both true false e = cc
both false y e = cc

found : (a b : ℕ) (bs : List ℕ) → has a (b ∷ bs) ≡ true → (a ≡ b) ⊎ (has a bs ≡ true)
found a b bs e =
    elim (cases_Bool (nat_eq a b)) [
      | inl agree ↦ inl (eqb-true a b agree)
      | inr differ ↦ inr (ap (λ (x : Bool). x || has a bs) (sym differ) ∙ e)
    ]

all_same : (ft S T : List ℕ) (a : ℕ) → are_same ft S T ≡ true → has a ft ≡ true → same_at S T a ≡ true
unfolding are_same
all_same [] S T a e h = cc
all_same (b ∷ ft) S T a e h =
    let two = both (same_at S T b) (are_same ft S T) e in
    elim (found a b ft h)
    [ inl is ↦ ap (same_at S T) is ∙ two.0 | inr later ↦ all_same ft S T a two.1 later ]

-- the words that differ, of some places
abbrev rows_at : List ℕ → List ℕ → List ℕ → List ChangedRow
rows_at S T ks = flat_map (difference_at S T) ks

row_or : (f : List ℕ) (S T : List ℕ) (k : ℕ) (rows : List ChangedRow) → any_marked f (difference_at S T k ++ rows) ≡ cond (same_at S T k) (any_marked f rows) (is_marked f k || any_marked f rows)
row_or f S T k rows =
    elim (same_at S T k) as (λ b. any_marked f (cond b [] (record { at = k; value = slice_index T k } ∷ []) ++ rows) ≡ cond b (any_marked f rows) (is_marked f k || any_marked f rows))
    [ true ↦ refl | false ↦ refl ]

no_row : (f : List ℕ) (S T ks : List ℕ) → ((a : ℕ) → is_marked f a ≡ true → same_at S T a ≡ true) → any_marked f (rows_at S T ks) ≡ false
no_row f S T [] same = refl
no_row f S T (k ∷ ks) same =
    row_or f S T k (rows_at S T ks)
    ∙ elim (cases_Bool (same_at S T k)) as (λ _. cond (same_at S T k) (any_marked f (rows_at S T ks)) (is_marked f k || any_marked f (rows_at S T ks)) ≡ false) [
      | inl agree ↦ ap (λ (b : Bool). cond b (any_marked f (rows_at S T ks)) (is_marked f k || any_marked f (rows_at S T ks))) agree ∙ no_row f S T ks same
      | inr differ ↦
          ap (λ (b : Bool). cond b (any_marked f (rows_at S T ks)) (is_marked f k || any_marked f (rows_at S T ks))) differ
          ∙ ap (λ (b : Bool). b || any_marked f (rows_at S T ks)) (unmarked k differ)
          ∙ no_row f S T ks same
    ]
  where
    unmarked : (k : ℕ) → same_at S T k ≡ false → is_marked f k ≡ false
    unmarked k differ =
        elim (cases_Bool (is_marked f k))
        [ inl agree ↦ absurd (clash differ (same k agree)) | inr differ ↦ differ ]

or_true : (x : Bool) → (x || true) ≡ true
or_true true = refl
or_true false = refl

later_row : (f : List ℕ) (S T ks : List ℕ) (k : ℕ) → any_marked f (rows_at S T ks) ≡ true → any_marked f (rows_at S T (k ∷ ks)) ≡ true
later_row f S T ks k e =
    row_or f S T k (rows_at S T ks)
    ∙ ap (λ (b : Bool). cond (same_at S T k) b (is_marked f k || b)) e
    ∙ elim (same_at S T k) as (λ b. cond b true (is_marked f k || true) ≡ true) [ true ↦ refl | false ↦ or_true (is_marked f k) ]

some_row : (f : List ℕ) (S T ks : List ℕ) (a : ℕ) → has a ks ≡ true → is_marked f a ≡ true → same_at S T a ≡ false → any_marked f (rows_at S T ks) ≡ true
some_row f S T [] a h m differ = cc
some_row f S T (k ∷ ks) a h m differ =
    elim (found a k ks h) [
      | inl is ↦
          row_or f S T k (rows_at S T ks)
          ∙ ap (λ (b : Bool). cond b (any_marked f (rows_at S T ks)) (is_marked f k || any_marked f (rows_at S T ks))) (ap (same_at S T) (sym is) ∙ differ)
          ∙ ap (λ (b : Bool). b || any_marked f (rows_at S T ks)) (ap (is_marked f) (sym is) ∙ m)
      | inr later ↦ later_row f S T ks k (some_row f S T ks a later m differ)
    ]

in_range : (n b a : ℕ) → b ≤ a → a < b + n → has a (range_with_len b n) ≡ true
in_range zero b a low high = absurd (omega arith)
in_range (suc n) b a low high =
    elim (cases_Bool (nat_eq a b)) [
      | inl agree ↦ ap (λ (x : Bool). x || has a (range_with_len (b + 1) n)) agree
      | inr differ ↦
          ap (λ (x : Bool). x || has a (range_with_len (b + 1) n)) differ
          ∙ in_range n (b + 1) a (omega (arith, apart a b differ)) (omega arith)
    ]
  where
    apart : (a b : ℕ) → nat_eq a b ≡ false → a ≢ b
    apart a b differ e = clash differ (eq-eqb a b e)

-- a place past both is the same in both
past_same : (S T : List ℕ) (a : ℕ) → length S ≡ length T → length S ≤ a → same_at S T a ≡ true
past_same S T a e le =
    eq-eqb (slice_index S a) (slice_index T a) (get_or_past S a 0 le ∙ sym (get_or_past T a 0 (omega arith)))

inside : (S T : List ℕ) (a : ℕ) → length S ≡ length T → same_at S T a ≡ false → a < length S
inside S T a e differ =
    elim (cases_lt a (length S))
    [ inl lt ↦ lt | inr le ↦ absurd (clash differ (past_same S T a e le)) ]

pub exact : (f : List ℕ) (ft S T : List ℕ) → SetOf f ft → length S ≡ length T → not (are_same ft S T) ≡ any_marked f (differences S T)
unfolding differences_to
exact f ft S T marks e =
    elim (cases_Bool (are_same ft S T)) [
      | inl agree ↦ ap not agree ∙ sym (no_row f S T (range_with_len 0 (length S)) (λ a m. all_same ft S T a agree (sym (marks.each a) ∙ m)))
      | inr differ ↦
          let d : Differs ft S T = one_differs ft S T differ in
          ap not differ
          ∙ sym (some_row f S T (range_with_len 0 (length S)) d.0 (in_range (length S) 0 d.0 (omega arith) (omega (arith, inside S T d.0 e d.2))) (marks.each d.0 ∙ d.1) d.2)
    ]

-- where nothing changed, nothing is touched
pub all_same_itself : (ft S : List ℕ) → are_same ft S S ≡ true
unfolding are_same
all_same_itself [] S = refl
all_same_itself (a ∷ ft) S =
    ap (λ (b : Bool). b && are_same ft S S) (eq-eqb (slice_index S a) (slice_index S a) refl) ∙ all_same_itself ft S
