-- The way of a page found from the inside out is the one that the map has, which is composed from the outside in.
use Rattle.std.proofs.Common.{◌≡◌, ℕ, ◌+◌, ◌/◌, ◌%◌, ◌<◌, ◌≤◌, inl, inr, Bool, cond, ◌==◌, List, [], ◌∷◌, ◌++◌, length, Option, Some, None, refl, ap, ◌∙◌, sym, subst, arith, slice_get, get_or}
use Rattle.std.specs.Prelude.{reverse}
use Rattle.std.specs.Option.{option_map}
use Rattle.std.proofs.lemmas.Option.{slice_get_past, slice_get-get_or, slice_get_within, same_Some}
use Rattle.std.proofs.lemmas.List.{reverse-append, reverse-reverse, length-reverse}
use Rattle.std.proofs.lemmas.Bool.{cases_lt, lt-ltb, le-ltb}
use Rattle.hv_word.specs.Words.{field_of}
use Rattle.hv_word.specs.Storage.{page_count}
use Rattle.hv_store.specs.declared.access.Access.{Access}
use Rattle.hv_store.specs.declared.access.Access.TheVariants.{Read, Write, Fetch}
use Rattle.hv_store.specs.declared.access.Slot.{Slot}
use Rattle.hv_store.specs.declared.access.Way.{Way}
use Rattle.hv_store.specs.declared.access.Way.TheVariants.{Open, Shut}
use Rattle.hv_store.specs.Access.{way_for, identity, open_at}
use Rattle.hv_store.proofs.Identity.{length-identity, slice_get-identity}
use Rattle.hv_map.specs.Item.{Item}
use Rattle.hv_map.specs.Compose.{Looked, Named, Stopped, look, page_named, table_of, word_in, entry_of, no_write, no_fetch, every, granted, slot_through, slot_of, reading, compose_slot, compose}
use Rattle.hv_map.specs.Chain.{along, map_along, pin_of, map_of}
use Rattle.hv_map.specs.Trail.{pages_of, refuses, refusal_cause, go_out, outer_reading, step_out, trail, trail_of}
use Rattle.hv_map.proofs.Slots.{along-snoc, length-composed, composed_at}

-- an entry depends on the ways for reading page by page
pub entry_alike : (S : List ℕ) (r q : ℕ → Option Way) (j t v i : ℕ) → ((u : ℕ) → r u ≡ q u) → entry_of S r j t v i ≡ entry_of S q j t v i
entry_alike S r q j t v i same = in_table (table_of S r j t v i) ∙ ap (word_in S q j i) table
  where
    table : table_of S r j t v i ≡ table_of S q j t v i
    table = ap (λ (way : Option Way). cond (v == 2) (page_named (look S j i (i / 1024) way)) (Named (t + i / 1024))) (same t)

    in_table : (l : Looked) → word_in S r j i l ≡ word_in S q j i l
    in_table (Named u) = ap (look S j i (i % 1024)) (same u)
    in_table (Stopped way) = refl

-- a map F has m pages, with the ways that `outer` gives
pub record Gives (F : List Slot) (m : ℕ) (outer : ℕ → Access → Way) : Type 0 where
  pub size : length F ≡ m
  pub ways : (i : ℕ) (s : Slot) (a : Access) → slice_get F i ≡ Some s → way_for s a ≡ outer i a

module _ (F : List Slot) (m : ℕ) (outer : ℕ → Access → Way) (gives : Gives F m outer) where
  slot_there : (q : ℕ) → q < m → (s : Slot) × (slice_get F q ≡ Some s)
  slot_there q h =
      let inside : q < length F = omega (arith, gives.size) in
      (get_or F q (every (Open 0)), slice_get-get_or F q (every (Open 0)) inside)

  none_there : (q : ℕ) → m ≤ q → slice_get F q ≡ None
  none_there q h = let past : length F ≤ q = omega (arith, gives.size) in slice_get_past F q past

  pub reading_gives : (u : ℕ) → reading F u ≡ outer_reading outer m u
  reading_gives u = elim (cases_lt u m) [
    | inl h ↦
        let there = slot_there u h in
        ap (option_map (λ (s : Slot). s.read)) there.1
        ∙ ap Some (gives.ways u there.0 Read there.1)
        ∙ sym (ap (λ (b : Bool). cond b (Some (outer u Read)) None) (lt-ltb u m h))
    | inr h ↦
        ap (option_map (λ (s : Slot). s.read)) (none_there u h)
        ∙ sym (ap (λ (b : Bool). cond b (Some (outer u Read)) None) (le-ltb u m h))
  ]

  granted_gives : (j v i e q : ℕ) (s : Slot) → slice_get F q ≡ Some s → (a : Access) → way_for (granted j v i e s) a ≡ cond (refuses v e a) (Shut j (refusal_cause a) i None) (outer q a)
  granted_gives j v i e q s is Read = gives.ways q s Read is
  granted_gives j v i e q s is Write = ap (λ (way : Way). cond (no_write e) (Shut j 2 i None) way) (gives.ways q s Write is)
  granted_gives j v i e q s is Fetch = ap (λ (way : Way). cond (no_fetch v e) (Shut j 7 i None) way) (gives.ways q s Fetch is)

  every_way : (way : Way) (a : Access) → way_for (every way) a ≡ way
  every_way way Read = refl
  every_way way Write = refl
  every_way way Fetch = refl

  slot_gives : (j v i : ℕ) (l : Looked) (a : Access) → way_for (slot_of F j v i l) a ≡ go_out outer m j v i a l
  slot_gives j v i (Stopped way) a = every_way way a
  slot_gives j v i (Named e) a = elim (cases_lt (field_of e 12 20) m) [
    | inl h ↦
        let there = slot_there (field_of e 12 20) h in
        ap (λ (o : Option Slot). way_for (slot_through j v i e o) a) there.1
        ∙ granted_gives j v i e (field_of e 12 20) there.0 there.1 a
        ∙ sym (ap (λ (b : Bool). cond b (cond (refuses v e a) (Shut j (refusal_cause a) i None) (outer (field_of e 12 20) a)) (Shut j 3 i None)) (lt-ltb (field_of e 12 20) m h))
    | inr h ↦
        ap (λ (o : Option Slot). way_for (slot_through j v i e o) a) (none_there (field_of e 12 20) h)
        ∙ every_way (Shut j 3 i None) a
        ∙ sym (ap (λ (b : Bool). cond b (cond (refuses v e a) (Shut j (refusal_cause a) i None) (outer (field_of e 12 20) a)) (Shut j 3 i None)) (le-ltb (field_of e 12 20) m h))
  ]

  pub composed_gives : (S : List ℕ) (j : ℕ) (x : Item) → Gives (compose S F j x.pages x.table x.version) x.pages (step_out S outer m j x)
  unfolding compose_slot
  composed_gives S j x = record {
    size = length-composed S F j x.pages x.table x.version;
    ways = λ i s a is.
        ap (λ (r : Slot). way_for r a) (composed_at S F j x.pages x.table x.version i s is)
        ∙ slot_gives j x.version i (entry_of S (reading F) j x.table x.version i) a
        ∙ ap (go_out outer m j x.version i a) (entry_alike S (reading F) (outer_reading outer m) j x.table x.version i reading_gives);
  }

identity_gives : (P : ℕ) → Gives (identity P) P (λ i a. Open i)
identity_gives P = record {
  size = length-identity P;
  ways = λ i s a is.
      let inside : i < P = (let h : i < length (identity P) = slice_get_within (identity P) i s is in omega (arith, length-identity P)) in
      let same : s ≡ open_at i = same_Some s (open_at i) (sym is ∙ slice_get-identity P i inside) in
      ap (λ (r : Slot). way_for r a) same ∙ open_way i a;
}
  where
    open_way : (i : ℕ) (a : Access) → way_for (open_at i) a ≡ Open i
    open_way i Read = refl
    open_way i Write = refl
    open_way i Fetch = refl

-- the map along the machines, the innermost of which comes first
pub trail_gives : (S : List ℕ) (P : ℕ) (xs : List Item) → Gives (along S (identity P) 0 (reverse xs)) (pages_of P xs) (trail S P xs)
unfolding trail along
trail_gives S P [] = identity_gives P
trail_gives S P (x ∷ xs) =
    let turned : reverse (x ∷ xs) ≡ reverse xs ++ x ∷ [] = reverse-append (x ∷ []) xs in
    let level : 0 + length (reverse xs) ≡ length xs = omega (arith, length-reverse xs) in
    let is : along S (identity P) 0 (reverse (x ∷ xs)) ≡ compose S (along S (identity P) 0 (reverse xs)) (length xs) x.pages x.table x.version =
    ap (along S (identity P) 0) turned
    ∙ along-snoc S (identity P) 0 (reverse xs) x
    ∙ ap (λ (k : ℕ). compose S (along S (identity P) 0 (reverse xs)) k x.pages x.table x.version) level in
    subst (λ (F : List Slot). Gives F x.pages (step_out S (trail S P xs) (pages_of P xs) (length xs) x)) (sym is)
    (composed_gives (along S (identity P) 0 (reverse xs)) (pages_of P xs) (trail S P xs) (trail_gives S P xs) S (length xs) x)

pub trail_is : (S : List ℕ) (items : List Item) (i : ℕ) (s : Slot) (a : Access) → slice_get (map_along S items) i ≡ Some s → way_for s a ≡ trail S (page_count S) (reverse items) i a
unfolding map_along
trail_is S items i s a is =
    let there : slice_get (along S (identity (page_count S)) 0 (reverse (reverse items))) i ≡ Some s =
    ap (λ (xs : List Item). slice_get (along S (identity (page_count S)) 0 xs) i) (reverse-reverse items) ∙ is in
    (trail_gives S (page_count S) (reverse items)).ways i s a there

pub trail_law : (S path : List ℕ) (F : List Slot) (i : ℕ) (s : Slot) (a : Access) → map_of S path ≡ Some F → slice_get F i ≡ Some s → trail_of S path i a ≡ Some (way_for s a)
trail_law S path F i s a = go (pin_of S path)
  where
    go : (o : Option (List Item)) → option_map (map_along S) o ≡ Some F → slice_get F i ≡ Some s → option_map (λ (items : List Item). trail S (page_count S) (reverse items) i a) o ≡ Some (way_for s a)
    go None e is = absurd (let f : None ≡ Some F = e in cc)
    go (Some items) e is =
        let same : map_along S items ≡ F = same_Some (map_along S items) F e in
        ap Some (sym (trail_is S items i s a (ap (λ (G : List Slot). slice_get G i) same ∙ is)))
