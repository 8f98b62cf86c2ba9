-- What a look-up finds after each change of a cache.
use Rattle.std.proofs.Common.{◌≡◌, ℕ, zero, suc, ◌-◌, ◌≤◌, Bool, true, false, not, cond, List, [], ◌∷◌, length, take, Option, Some, None, IfSome, inl, inr, refl, sym, subst, ap, ◌∙◌, arith}
use Rattle.std.proofs.lemmas.Bool.{cases_Bool}
use Rattle.std.proofs.lemmas.List.{take_all}
use Rattle.std.proofs.lemmas.Map.Entries.{lookup-filter-values, option_filter}
use Rattle.std.specs.Map.{lookup, lookup_entry, remove_entry}
use Rattle.std.specs.Option.{option_map_or}
use Rattle.hv_cache.specs.Kept.{Kept, rests_on}
use Rattle.hv_cache.specs.Holding.{Entry, Key, same, with_entry}
use Rattle.hv_cache.specs.Laws.{ForgottenLaw, KeptIsFoundLaw, LookKeepsLaw, OnlyKeptIsNewLaw, OthersStayLaw, unless_on}
use Rattle.hv_cache.proofs.Forgotten.{same_equiv}
use Rattle.hv_cache.proofs.Staying.{same_is}

pub kept_is_found : KeptIsFoundLaw
kept_is_found c key k = rw (same_equiv.refl key) refl

length_removed : (test : Key → Bool) (es : List Entry) → length (remove_entry test es) ≤ length es
length_removed test [] = omega arith
length_removed test (e ∷ es) = elim (cases_Bool (test e.0)) [
  | inl t ↦ rw t (omega arith)
  | inr t ↦ rw t (let rest = length_removed test es in omega (arith, rest))
]

-- what another key finds where an entry has gone
other_removed : (key q : Key) (es : List Entry) → same key q ≡ false → lookup (same q) (remove_entry (same key) es) ≡ lookup (same q) es
other_removed key q [] apart = refl
other_removed key q (e ∷ es) apart = elim (cases_Bool (same key e.0)) [
  | inl t ↦ let other : same q e.0 ≡ false = rw (same_is key e.0 t) at (sym (same_equiv.symm key q) ∙ apart) in rw (t, other) refl
  | inr t ↦ rw t (ap (λ (o : Option Kept). cond (same q e.0) (Some e.1) o) (other_removed key q es apart))
]

-- what is found among the first entries is found among all
found_taken : (test : Key → Bool) (n : ℕ) (es : List Entry) → IfSome (lookup test (take n es)) (λ found. lookup test es ≡ Some found)
found_taken test zero es = tt
found_taken test (suc n) [] = tt
found_taken test (suc n) (e ∷ es) = elim (cases_Bool (test e.0)) [
  | inl t ↦ rw t refl
  | inr t ↦ rw t (found_taken test n es)
]

pub only_kept_is_new : OnlyKeptIsNewLaw
only_kept_is_new c key k = (kept_is_found c key k, others)
  where
    others :
        (q : Key)
        → same key q ≡ false
        → IfSome (lookup (same q) (with_entry c key k)) (λ found. lookup (same q) c.entries ≡ Some found)
    others q apart =
        let left = remove_entry (same key) c.entries in
        let other : same q key ≡ false = sym (same_equiv.symm key q) ∙ apart in
        rw other
        (subst (λ (o : Option Kept). IfSome (lookup (same q) (take (c.cap - 1) left)) (λ found. o ≡ Some found))
        (other_removed key q c.entries apart)
        (found_taken (same q) (c.cap - 1) left))

pub others_stay : OthersStayLaw
others_stay c key q k room apart =
    let fewer = length_removed (same key) c.entries in
    let all : take (c.cap - 1) (remove_entry (same key) c.entries) ≡ remove_entry (same key) c.entries = take_all (c.cap - 1) (remove_entry (same key) c.entries) (omega (arith, fewer, room)) in
    let turned : same q key ≡ false = sym (same_equiv.symm key q) ∙ apart in
    (ap (λ (es : List Entry). (key, k) ∷ es) all, rw (all, turned) (other_removed key q c.entries apart))

-- the entry that is found, and what its key finds
found_key : (test : Key → Bool) (es : List Entry) (e : Entry) → lookup_entry test es ≡ Some e → (test e.0 ≡ true) × (lookup test es ≡ Some e.1)
found_key test [] e h = cc
found_key test (f ∷ es) e h = elim (cases_Bool (test f.0)) [
  | inl t ↦ let g : Some f ≡ Some e = rw t at h in let is : f ≡ e = cc in (rw (← is) t, rw (t, is) refl)
  | inr t ↦ rw t (found_key test es e (rw t at h))
]

moved_keeps : (es : List Entry) (key q : Key) (o : Option Entry) → lookup_entry (same key) es ≡ o → lookup (same q) (option_map_or (λ (e : Entry). e ∷ remove_entry (same key) es) o es) ≡ lookup (same q) es
moved_keeps es key q None h = refl
moved_keeps es key q (Some e) h =
    let f = found_key (same key) es e h in
    let is : key ≡ e.0 = same_is key e.0 f.0 in
    elim (cases_Bool (same key q)) [
      | inl t ↦
          let at : key ≡ q = same_is key q t in
          let one : same q e.0 ≡ true = rw (← at) f.0 in
          rw one (sym (rw at at f.1))
      | inr t ↦
          let other : same q e.0 ≡ false = rw is at (sym (same_equiv.symm key q) ∙ t) in
          rw other (other_removed key q es t)
    ]

pub look_keeps : LookKeepsLaw
look_keeps es key q = moved_keeps es key q (lookup_entry (same key) es) refl

turned_round : (g : ℕ) (o : Option Kept) → option_filter (λ (k : Kept). not (rests_on g k)) o ≡ unless_on g o
turned_round g None = refl
turned_round g (Some k) = elim (cases_Bool (rests_on g k)) [
  | inl t ↦ rw t refl
  | inr t ↦ rw t refl
]

pub forgotten : ForgottenLaw
forgotten g es q apart =
    lookup-filter-values same_equiv (λ (k : Kept). not (rests_on g k)) q es apart
    ∙ turned_round g (lookup (same q) es)
