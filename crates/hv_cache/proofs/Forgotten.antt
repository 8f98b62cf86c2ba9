-- Entries that are forgotten one by one are the same as those that are left out together.
use Rattle.std.proofs.Common.{◌≡◌, ℕ, ◌+◌, ◌<◌, ◌≤◌, length, drop, get_or, Bool, true, false, not, List, [], ◌∷◌, ◌++◌, append_assoc, inl, inr, refl, sym, ap, ◌∙◌}
use Rattle.std.proofs.lemmas.Bool.{cases_Bool, or_parts}
use Rattle.std.proofs.lemmas.Cmp.{and_equiv, nat_eq_equiv, on_equiv}
use Rattle.std.proofs.lemmas.List.{drop_all, drop_more}
use Rattle.std.proofs.lemmas.Map.Keys.{IsDistinct-cons, IsDistinct-head, IsDistinct-tail}
use Rattle.std.specs.Cmp.{IsEquivalence}
use Rattle.std.specs.List.{AllByRecursion, IsDistinct, filter, list_any}
use Rattle.std.specs.Map.{keys_of, remove_entry}
use Rattle.hv_cache.specs.Holding.{Entry, Key, same}

pub same_equiv : IsEquivalence same
same_equiv = and_equiv (on_equiv (λ (k : Key). k.0) nat_eq_equiv) (on_equiv (λ (k : Key). k.1) nat_eq_equiv)

module _ (p : Entry → Bool) where
  -- where no entry passes, none is left out
  pub none_out : (es : List Entry) → list_any p es ≡ false → filter (λ e. not (p e)) es ≡ es
  none_out [] h = refl
  none_out (e ∷ es) h = let b = or_parts (p e) (list_any p es) h in rw b.0 (ap (λ (fs : List Entry). e ∷ fs) (none_out es b.1))

  pub all_out : (es : List Entry) → keys_of (filter p es) ≡ [] → filter (λ e. not (p e)) es ≡ es
  all_out [] h = refl
  all_out (e ∷ es) h = elim (cases_Bool (p e)) [
    | inl t ↦ let f : e.0 ∷ keys_of (filter p es) ≡ [] = rw t at h in cc
    | inr t ↦ rw t (ap (λ (fs : List Entry). e ∷ fs) (all_out es (rw t at h)))
  ]

  -- a key that differs from all differs from the first of those that pass
  other_key : (x k : Key) (ks : List Key) (es : List Entry) → AllByRecursion (λ y. same x y ≡ false) (keys_of es) → keys_of (filter p es) ≡ k ∷ ks → same x k ≡ false
  other_key x k ks [] all h = cc
  other_key x k ks (e ∷ es) all h = elim (cases_Bool (p e)) [
    | inl t ↦ let f : e.0 ∷ keys_of (filter p es) ≡ k ∷ ks = rw t at h in let g : e.0 ≡ k = cc in rw g at all.0
    | inr t ↦ other_key x k ks es all.1 (rw t at h)
  ]

  -- the entry of the first key of those that pass goes, and the others stay
  pub record Forgets (k : Key) (ks : List Key) (es : List Entry) : Type 0 where
    pub left : filter (λ e. not (p e)) (remove_entry (same k) es) ≡ filter (λ e. not (p e)) es
    pub keys : keys_of (filter p (remove_entry (same k) es)) ≡ ks

  pub forgets : (k : Key) (ks : List Key) (es : List Entry) → IsDistinct same (keys_of es) → keys_of (filter p es) ≡ k ∷ ks → Forgets k ks es
  forgets k ks [] d h = cc
  forgets k ks (e ∷ es) d h = elim (cases_Bool (p e)) [
    | inl t ↦
        let f : e.0 ∷ keys_of (filter p es) ≡ k ∷ ks = rw t at h in
        let g : e.0 ≡ k = cc in
        let one : same k e.0 ≡ true = rw g (same_equiv.refl k) in
        record { left = rw (one, t) refl; keys = rw one cc }
    | inr t ↦
        let f : keys_of (filter p es) ≡ k ∷ ks = rw t at h in
        let apart : same k e.0 ≡ false = sym (same_equiv.symm e.0 k) ∙ other_key e.0 k ks es (IsDistinct-head same e.0 (keys_of es) d) f in
        let rest = forgets k ks es (IsDistinct-tail same e.0 (keys_of es) d) f in
        record { left = rw (apart, t) (ap (λ (fs : List Entry). e ∷ fs) rest.left); keys = rw (apart, t) rest.keys }
  ]

  -- the same, where the keys are those of a list from a place on
  pub forgets_at : (es : List Entry) (ks : List Key) (i : ℕ) (d : Key) → i < length ks → IsDistinct same (keys_of es) → keys_of (filter p es) ≡ drop i ks → Forgets (get_or ks i d) (drop (i + 1) ks) es
  forgets_at es ks i d lt apart h = forgets (get_or ks i d) (drop (i + 1) ks) es apart (h ∙ drop_more ks i d lt)

  pub out_at : (es : List Entry) (ks : List Key) (i : ℕ) → length ks ≤ i → keys_of (filter p es) ≡ drop i ks → filter (λ e. not (p e)) es ≡ es
  out_at es ks i ge h = all_out es (h ∙ drop_all i ks ge)

  -- the keys so far and those of what is left, where the next entry passes or doesn't
  pub more_yes : (ks all : List Key) (e : Entry) (es : List Entry) → p e ≡ true → ks ++ keys_of (filter p (e ∷ es)) ≡ all → (ks ++ e.0 ∷ []) ++ keys_of (filter p es) ≡ all
  more_yes ks all e es t h = append_assoc ks (e.0 ∷ []) (keys_of (filter p es)) ∙ rw t at h

  pub more_no : (ks all : List Key) (e : Entry) (es : List Entry) → p e ≡ false → ks ++ keys_of (filter p (e ∷ es)) ≡ all → ks ++ keys_of (filter p es) ≡ all
  more_no ks all e es t h = rw t at h

all_apart : (x : Key) (test : Key → Bool) (es : List Entry) → AllByRecursion (λ y. same x y ≡ false) (keys_of es) → AllByRecursion (λ y. same x y ≡ false) (keys_of (remove_entry test es))
all_apart x test [] all = all
all_apart x test (e ∷ es) all = elim (cases_Bool (test e.0)) [
  | inl t ↦ rw t all.1
  | inr t ↦ rw t (all.0, all_apart x test es all.1)
]

-- keys that differ still do where an entry has gone
pub distinct_removed : (test : Key → Bool) (es : List Entry) → IsDistinct same (keys_of es) → IsDistinct same (keys_of (remove_entry test es))
distinct_removed test [] d = d
distinct_removed test (e ∷ es) d = elim (cases_Bool (test e.0)) [
  | inl t ↦ rw t (IsDistinct-tail same e.0 (keys_of es) d)
  | inr t ↦
      rw t
      (IsDistinct-cons same e.0 (keys_of (remove_entry test es))
      (all_apart e.0 test es (IsDistinct-head same e.0 (keys_of es) d))
      (distinct_removed test es (IsDistinct-tail same e.0 (keys_of es) d)))
]
