-- The pages of a trail, level by level.
use Rattle.std.proofs.Common.{◌≡◌, ℕ, ◌+◌, ◌<◌, Bool, true, false, cond, List, [], ◌∷◌, ◌++◌, length, Some, None, refl, ap, ◌∙◌, sym, subst, arith, slice_get, take, set, append_assoc}
use Rattle.std.specs.Prelude.{reverse, nat_lt}
use Rattle.std.proofs.lemmas.List.{take_more, take_more_set, length-take-le, reverse-append, reverse-reverse, length-reverse}
use Rattle.std.proofs.lemmas.Option.{slice_get_within, get_or_from_slice_get, same_Some}
use Rattle.std.proofs.Math.Seq.{take-length}
use Rattle.hv_word.specs.Storage.{page_count}
use Rattle.hv_word.specs.Words.{field_of}
use Rattle.hv_store.specs.declared.access.Access.TheVariants.{Read}
use Rattle.hv_store.specs.declared.access.Slot.{Slot}
use Rattle.hv_store.specs.Access.{identity}
use Rattle.hv_map.specs.Item.{Item}
use Rattle.hv_map.specs.Compose.{Looked, Named, Stopped, entry_of, reading}
use Rattle.hv_map.specs.Chain.{along, map_along}
use Rattle.hv_map.specs.Trail.{trail, trail_pages, pages_of, pages_out, outer_reading}
use Rattle.hv_map.specs.Levels.{map_at, pages_from, page_out}
use Rattle.hv_map.proofs.Trails.{Gives, entry_alike, reading_gives, trail_gives, trail_is}

-- the map at level k, as the way outwards gives it
gives_at : (S : List ℕ) (items : List Item) (k : ℕ) → Gives (map_at S items k) (pages_of (page_count S) (reverse (take k items))) (trail S (page_count S) (reverse (take k items)))
unfolding map_at map_along
gives_at S items k =
    let P = page_count S in
    let ys : List Item = reverse (take k items) in
    subst (λ (xs : List Item). Gives (along S (identity P) 0 xs) (pages_of P ys) (trail S P ys)) (reverse-reverse (take k items)) (trail_gives S P ys)

pub pages_from-zero : (S : List ℕ) (items : List Item) (k i : ℕ) → k ≡ 0 → pages_from S items k i ≡ i ∷ []
unfolding pages_from trail_pages
pages_from-zero S items k i e = ap (λ (j : ℕ). trail_pages S (page_count S) (reverse (take j items)) i) e

pub pages_from-length : (S : List ℕ) (items : List Item) (i : ℕ) → pages_from S items (length items) i ≡ trail_pages S (page_count S) (reverse items) i
unfolding pages_from
pages_from-length S items i = ap (λ (xs : List Item). trail_pages S (page_count S) (reverse xs) i) (take-length items)

out_next : (f : ℕ → List ℕ) (m q : ℕ) (l : Looked) → page_out m l ≡ Some q → pages_out f m l ≡ f q
out_next f m q (Stopped way) e = absurd (let h : None ≡ Some q = e in cc)
out_next f m q (Named n) e = go (nat_lt (field_of n 12 20) m) e
  where
    go : (b : Bool) → cond b (Some (field_of n 12 20)) None ≡ Some q → cond b (f (field_of n 12 20)) [] ≡ f q
    go true h = ap f (same_Some (field_of n 12 20) q h)
    go false h = absurd (let p : None ≡ Some q = h in cc)

out_none : (f : ℕ → List ℕ) (m : ℕ) (l : Looked) → page_out m l ≡ None → pages_out f m l ≡ []
out_none f m (Stopped way) e = refl
out_none f m (Named n) e = go (nat_lt (field_of n 12 20) m) e
  where
    go : (b : Bool) → cond b (Some (field_of n 12 20)) None ≡ None → cond b (f (field_of n 12 20)) [] ≡ []
    go true h = absurd (let p : Some (field_of n 12 20) ≡ None = h in cc)
    go false h = refl

-- the pages from one level deeper on
module _ (S : List ℕ) (items : List Item) (k j i : ℕ) (x : Item) (is : slice_get items k ≡ Some x) (e : j ≡ k + 1) where
  abbrev P : ℕ
  P = page_count S

  abbrev ys : List Item
  ys = reverse (take k items)

  abbrev F : List Slot
  F = map_at S items k

  abbrev outer : ℕ → List ℕ
  outer = trail_pages S P ys

  deeper : take j items ≡ take k items ++ x ∷ []
  deeper =
      let inside : k < length items = slice_get_within items k x is in
      ap (λ (n : ℕ). take n items) e
      ∙ take_more items k x inside
      ∙ ap (λ (y : Item). take k items ++ y ∷ []) (get_or_from_slice_get items k x x is)

  turned : reverse (take j items) ≡ x ∷ ys
  turned = ap reverse deeper ∙ reverse-append (take k items) (x ∷ [])

  level : length ys ≡ k
  level =
      let inside : k < length items = slice_get_within items k x is in
      omega (arith, length-reverse (take k items), length-take-le k items (omega arith))

  entry : entry_of S (outer_reading (trail S P ys) (pages_of P ys)) (length ys) x.table x.version i ≡ entry_of S (reading F) k x.table x.version i
  entry =
      ap (λ (n : ℕ). entry_of S (outer_reading (trail S P ys) (pages_of P ys)) n x.table x.version i) level
      ∙ sym (entry_alike S (reading F) (outer_reading (trail S P ys) (pages_of P ys)) k x.table x.version i (reading_gives F (pages_of P ys) (trail S P ys) (gives_at S items k)))

  first : pages_from S items j i ≡ i ∷ pages_out outer (length F) (entry_of S (reading F) k x.table x.version i)
  unfolding pages_from trail_pages
  first =
      ap (λ (xs : List Item). trail_pages S P xs i) turned
      ∙ ap (λ (l : Looked). i ∷ pages_out outer (pages_of P ys) l) entry
      ∙ ap (λ (m : ℕ). i ∷ pages_out outer m (entry_of S (reading F) k x.table x.version i)) (sym (gives_at S items k).size)

  pub pages_from-last : page_out (length (map_at S items k)) (entry_of S (reading (map_at S items k)) k x.table x.version i) ≡ None → pages_from S items j i ≡ i ∷ []
  pages_from-last none = first ∙ ap (λ (qs : List ℕ). i ∷ qs) (out_none outer (length F) (entry_of S (reading F) k x.table x.version i) none)

  pub pages_from-next : (q : ℕ) → page_out (length (map_at S items k)) (entry_of S (reading (map_at S items k)) k x.table x.version i) ≡ Some q → pages_from S items j i ≡ i ∷ pages_from S items k q
  unfolding pages_from
  pages_from-next q some = first ∙ ap (λ (qs : List ℕ). i ∷ qs) (out_next outer (length F) q (entry_of S (reading F) k x.table x.version i) some)

-- the way of the slot that the map has is the trail's
pub end_is : (S : List ℕ) (items : List Item) (i : ℕ) (s : Slot) → slice_get (map_along S items) i ≡ Some s → s.read ≡ trail S (page_count S) (reverse items) i Read
end_is S items i s is = trail_is S items i s Read is

-- one more page behind those that are written
pub pages_more : (xs : List ℕ) (n i : ℕ) → n < length xs → take (n + 1) (set xs n i) ≡ take n xs ++ i ∷ []
pages_more xs n i h = take_more_set xs n i h

pub pages_behind : (zs xs qs rest : List ℕ) (i : ℕ) → zs ≡ xs ++ i ∷ [] → qs ≡ i ∷ rest → zs ++ rest ≡ xs ++ qs
pages_behind zs xs qs rest i e f = ap (λ (l : List ℕ). l ++ rest) e ∙ append_assoc xs (i ∷ []) rest ∙ ap (λ (l : List ℕ). xs ++ l) (sym f)

pub ruleset goes_on = (pages_from-zero, pages_from-last, pages_from-next, pages_more, pages_behind)

pub ruleset ends = (pages_from-length, end_is)
