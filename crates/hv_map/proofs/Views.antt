-- What a machine sees of a storage agrees with it, and how the maps along a path open and shut.
use Rattle.std.proofs.Common.{◌≡◌, ℕ, zero, suc, ◌+◌, ◌-◌, ◌*◌, ◌<◌, ◌≤◌, inl, inr, List, [], ◌∷◌, ◌++◌, length, Option, Some, None, refl, ap, ◌∙◌, sym, subst, arith, slice_get, get_or, length-append}
use Rattle.std.proofs.lemmas.Option.{slice_get_within, same_Some, slice_get-get_or, slice_get_past}
use Rattle.std.proofs.lemmas.Bool.{cases_lt}
use Rattle.std.proofs.lemmas.List.{length-replicate, get_or_append_left, get_or-append_right}
use Rattle.std.proofs.lemmas.List.FromFn.{length-map-range_with_len, get_or-map-range_with_len}
use Rattle.hv_word.specs.Storage.{word_at, page_count}
use Rattle.hv_store.specs.declared.access.Access.{Access}
use Rattle.hv_store.specs.declared.access.Access.TheVariants.{Read, Write, Fetch}
use Rattle.hv_store.specs.declared.access.Slot.{Slot}
use Rattle.hv_store.specs.declared.access.Way.{Way}
use Rattle.hv_store.specs.declared.access.Way.TheVariants.{Open, Shut}
use Rattle.hv_store.specs.Access.{way_for, identity, open_at}
use Rattle.hv_store.proofs.Identity.{length-identity, slice_get-identity}
use Rattle.hv_map.specs.Item.{Item}
use Rattle.hv_map.specs.Compose.{compose}
use Rattle.hv_map.specs.Chain.{along}
use Rattle.hv_map.specs.Seen.{words_of, seen}
use Rattle.hv_map.specs.Carried.{WayLike, SlotLike, MapLike, ShutBelow, OpensSame, Agree}
use Rattle.hv_map.proofs.Handed.{composed_same, composed_level}

length-words_of : (S : List ℕ) (n : ℕ) (way : Way) → length (words_of S n way) ≡ n
unfolding words_of
length-words_of S n (Open g) = length-map-range_with_len (word_at S g) 0 n
length-words_of S n (Shut l c p w) = length-replicate n 0

word_of : (S : List ℕ) (n g w : ℕ) → w < n → get_or (words_of S n (Open g)) w 0 ≡ word_at S g w
unfolding words_of
word_of S n g w h = get_or-map-range_with_len (word_at S g) 0 n w w 0 h (omega arith)

-- it has as many pages as the machine
pub length-seen : (S : List ℕ) (F : List Slot) → length (seen S F) ≡ 1024 * length F
unfolding seen
length-seen S [] = refl
length-seen S (s ∷ F) = omega (arith, length-append (words_of S 1024 s.read) (seen S F), length-words_of S 1024 s.read, length-seen S F)

pub page_count-seen : (S : List ℕ) (F : List Slot) → page_count (seen S F) ≡ length F
page_count-seen S F = omega (arith, length-seen S F)

-- each page that the machine can read
pub word_at-seen : (S : List ℕ) (F : List Slot) (y x w : ℕ) (s : Slot) → slice_get F y ≡ Some s → s.read ≡ Open x → w < 1024 → word_at (seen S F) y w ≡ word_at S x w
unfolding seen
word_at-seen S [] y x w s is e h = absurd (let f : None ≡ Some s = is in cc)
word_at-seen S (r ∷ F) zero x w s is e h =
    let same : r ≡ s = same_Some r s is in
    let read : r.read ≡ Open x = ap (λ (q : Slot). q.read) same ∙ e in
    let inside : w < length (words_of S 1024 r.read) = omega (arith, length-words_of S 1024 r.read) in
    let at : 1024 * 0 + w ≡ w = omega arith in
    ap (λ (k : ℕ). get_or (words_of S 1024 r.read ++ seen S F) k 0) at
    ∙ get_or_append_left (words_of S 1024 r.read) (seen S F) 0 w inside
    ∙ ap (λ (way : Way). get_or (words_of S 1024 way) w 0) read
    ∙ word_of S 1024 x w h
word_at-seen S (r ∷ F) (suc y) x w s is e h =
    let past : 1024 ≤ 1024 * suc y + w = omega arith in
    let at : 1024 * suc y + w - 1024 ≡ 1024 * y + w = omega arith in
    get_or-append_right (words_of S 1024 r.read) (seen S F) 1024 (1024 * suc y + w) 0 (length-words_of S 1024 r.read) past
    ∙ ap (λ (k : ℕ). get_or (seen S F) k 0) at
    ∙ word_at-seen S F y x w s is e h

pub seen_agrees : (S : List ℕ) (F : List Slot) → Agree F S (seen S F)
seen_agrees S F y x w s is e h = sym (word_at-seen S F y x w s is e h)

-- the bare machine's map: all is open, each page as itself
identity_slot : (P i : ℕ) (s : Slot) → slice_get (identity P) i ≡ Some s → s ≡ open_at i
identity_slot P i s is =
    let within : i < length (identity P) = slice_get_within (identity P) i s is in
    let inside : i < P = omega (arith, length-identity P) in
    same_Some s (open_at i) (sym is ∙ slice_get-identity P i inside)

open_way : (i : ℕ) (a : Access) → way_for (open_at i) a ≡ Open i
open_way i Read = refl
open_way i Write = refl
open_way i Fetch = refl

identity_way : (P i : ℕ) (s : Slot) (a : Access) → slice_get (identity P) i ≡ Some s → way_for s a ≡ Open i
identity_way P i s a is = ap (λ (r : Slot). way_for r a) (identity_slot P i s is) ∙ open_way i a

pub identity_below : (P : ℕ) → ShutBelow 0 (identity P)
identity_below P y s a l c p w is e = absurd (let f : Open y ≡ Shut l c p w = sym (identity_way P y s a is) ∙ e in cc)

pub identity_same : (P : ℕ) → OpensSame (identity P)
identity_same P y s a x is e = identity_way P y s Read is ∙ sym (identity_way P y s a is) ∙ e

-- a child's map is shut at most at its parent's level
pub composed_below : (S : List ℕ) (F : List Slot) (j n t v : ℕ) → ShutBelow j F → ShutBelow (j + 1) (compose S F j n t v)
composed_below S F j n t v below y s a l c p w is e = elim (composed_level F j S n t v y s a l c p w is e) [
  | inl h ↦ omega arith
  | inr h ↦
      let lt : l < j = below h.0 h.1 h.2 l h.3 h.4 h.5 h.6 h.7 in
      omega arith
]

pub along_below : (S : List ℕ) (F : List Slot) (j : ℕ) (xs : List Item) → ShutBelow j F → ShutBelow (j + length xs) (along S F j xs)
unfolding along
along_below S F j [] below = let e : j ≡ j + 0 = omega arith in subst (λ (k : ℕ). ShutBelow k F) e below
along_below S F j (x ∷ xs) below =
    let e : j + 1 + length xs ≡ j + suc (length xs) = omega arith in
    subst (λ (k : ℕ). ShutBelow k (along S (compose S F j x.pages x.table x.version) (j + 1) xs)) e
    (along_below S (compose S F j x.pages x.table x.version) (j + 1) xs (composed_below S F j x.pages x.table x.version below))

pub along_same : (S : List ℕ) (F : List Slot) (j : ℕ) (xs : List Item) → OpensSame F → OpensSame (along S F j xs)
unfolding along
along_same S F j [] same = same
along_same S F j (x ∷ xs) same = along_same S (compose S F j x.pages x.table x.version) (j + 1) xs (composed_same F j S x.pages x.table x.version same)

-- two slots that are like each other, where they are read from two maps
pub slots_at : (k : ℕ) (F : List Slot) (o p x y : Option Slot) → o ≡ x → p ≡ y → SlotLike k F x y → SlotLike k F o p
slots_at k F o p x y e f h = subst (λ (z : Option Slot). SlotLike k F z p) (sym e) (subst (λ (z : Option Slot). SlotLike k F x z) (sym f) h)

-- each map is the bare machine's map of as many pages, carried through itself
pub identity_like : (k : ℕ) (F : List Slot) → MapLike k F F (identity (length F))
identity_like k F i = elim (cases_lt i (length F)) [
  | inl h ↦
      slots_at k F (slice_get F i) (slice_get (identity (length F)) i) (Some (get_or F i (open_at 0))) (Some (open_at i))
      (slice_get-get_or F i (open_at 0) h) (slice_get-identity (length F) i h) (like (get_or F i (open_at 0)) (slice_get-get_or F i (open_at 0) h))
  | inr h ↦
      let past : length (identity (length F)) ≤ i = omega (arith, length-identity (length F)) in
      slots_at k F (slice_get F i) (slice_get (identity (length F)) i) None None (slice_get_past F i h) (slice_get_past (identity (length F)) i past) tt
]
  where
    like : (s : Slot) → slice_get F i ≡ Some s → (a : Access) → WayLike k F a (way_for s a) (way_for (open_at i) a)
    like s is Read = inr (s, is, refl)
    like s is Write = inr (s, is, refl)
    like s is Fetch = inr (s, is, refl)
