-- What holds of each entry holds of those that stay, whatever is done.
use Rattle.std.proofs.Common.{◌≡◌, ℕ, zero, suc, ◌-◌, ◌==◌, Bool, true, List, [], ◌∷◌, take, Option, Some, None, inl, inr, refl, subst, ap, ◌∙◌}
use Rattle.std.proofs.lemmas.Bool.{and_parts, cases_Bool, eqb-true}
use Rattle.std.specs.List.{AllByRecursion, filter}
use Rattle.std.specs.Map.{lookup, lookup_entry, remove_entry}
use Rattle.std.specs.Option.{option_map_or}
use Rattle.lru.specs.LruCache.{promoted}
use Rattle.hv_cache.specs.Kept.{Kept}
use Rattle.hv_cache.specs.Holding.{Entry, Holding, Key, same, with_entry, without_page}

-- keys that are the same are equal
pub same_is : (a b : Key) → same a b ≡ true → a ≡ b
same_is a b h =
    let both = and_parts (a.0 == b.0) (a.1 == b.1) h in
    let x : a.0 ≡ b.0 = eqb-true a.0 b.0 both.0 in
    let y : a.1 ≡ b.1 = eqb-true a.1 b.1 both.1 in
    ap (λ (n : ℕ). (n, a.1)) x ∙ ap (λ (n : ℕ). (b.0, n)) y

module _ (P : Entry → Type 0) where
  pub all_removed : (test : Key → Bool) (es : List Entry) → AllByRecursion P es → AllByRecursion P (remove_entry test es)
  all_removed test [] all = all
  all_removed test (e ∷ es) all = elim (cases_Bool (test e.0)) [
    | inl t ↦ rw t all.1
    | inr t ↦ rw t (all.0, all_removed test es all.1)
  ]

  pub all_taken : (n : ℕ) (es : List Entry) → AllByRecursion P es → AllByRecursion P (take n es)
  all_taken zero es all = tt
  all_taken (suc n) [] all = all
  all_taken (suc n) (e ∷ es) all = (all.0, all_taken n es all.1)

  pub all_filtered : (p : Entry → Bool) (es : List Entry) → AllByRecursion P es → AllByRecursion P (filter p es)
  all_filtered p [] all = all
  all_filtered p (e ∷ es) all = elim (cases_Bool (p e)) [
    | inl t ↦ rw t (all.0, all_filtered p es all.1)
    | inr t ↦ rw t (all_filtered p es all.1)
  ]

  pub all_found : (test : Key → Bool) (es : List Entry) (e : Entry) → AllByRecursion P es → lookup_entry test es ≡ Some e → P e
  all_found test [] e all h = cc
  all_found test (f ∷ es) e all h = elim (cases_Bool (test f.0)) [
    | inl t ↦ let g : Some f ≡ Some e = rw t at h in let is : f ≡ e = cc in subst P is all.0
    | inr t ↦ all_found test es e all.1 (rw t at h)
  ]

  -- what holds of each entry holds of the one that a look-up finds
  pub all_looked_up : (key : Key) (es : List Entry) (k : Kept) → AllByRecursion P es → lookup (same key) es ≡ Some k → P (key, k)
  all_looked_up key [] k all h = cc
  all_looked_up key (f ∷ es) k all h = elim (cases_Bool (same key f.0)) [
    | inl t ↦
        let g : Some f.1 ≡ Some k = rw t at h in
        let is : f.1 ≡ k = cc in
        let one : key ≡ f.0 = same_is key f.0 t in
        rw (one, ← is) all.0
    | inr t ↦ all_looked_up key es k all.1 (rw t at h)
  ]

  all_moved : (test : Key → Bool) (es : List Entry) (o : Option Entry) → lookup_entry test es ≡ o → AllByRecursion P es → AllByRecursion P (option_map_or (λ (e : Entry). e ∷ remove_entry test es) o es)
  all_moved test es None h all = all
  all_moved test es (Some e) h all = (all_found test es e all h, all_removed test es all)

  -- of all that are left after a look-up
  pub all_promoted : (test : Key → Bool) (es : List Entry) → AllByRecursion P es → AllByRecursion P (promoted test es)
  all_promoted test es all = all_moved test es (lookup_entry test es) refl all

  -- after one is kept, of which it holds
  pub all_with_entry : (c : Holding) (key : Key) (k : Kept) → P (key, k) → AllByRecursion P c.entries → AllByRecursion P (with_entry c key k)
  all_with_entry c key k here all = (here, all_taken (c.cap - 1) (remove_entry (same key) c.entries) (all_removed (same key) c.entries all))

  -- and after a page is forgotten
  pub all_without_page : (g : ℕ) (es : List Entry) → AllByRecursion P es → AllByRecursion P (without_page g es)
  all_without_page g es all = all_filtered _ es all
