-- Composing keeps a map like its twin: what the words of its table say is the same in the storage, and in the storage that
-- the machine sees.
use Rattle.std.proofs.Common.{◌≡◌, ℕ, ◌+◌, ◌/◌, ◌%◌, ◌<◌, ◌≤◌, ◌⊎◌, inl, inr, Bool, true, false, cond, ◌==◌, List, Option, Some, None, refl, ap, sym, subst, arith, slice_get, length}
use Rattle.std.specs.Option.{option_map}
use Rattle.std.proofs.lemmas.Option.{slice_get_past}
use Rattle.std.proofs.lemmas.Bool.{cases_lt}
use Rattle.hv_word.specs.Words.{field_of}
use Rattle.hv_word.specs.Storage.{word_at}
use Rattle.hv_store.specs.declared.access.Access.{Access}
use Rattle.hv_store.specs.declared.access.Access.TheVariants.{Read, Write, Fetch}
use Rattle.hv_store.specs.declared.access.Slot.{Slot}
use Rattle.hv_store.specs.declared.access.Way.{Way}
use Rattle.hv_store.specs.declared.access.Way.TheVariants.{Open, Shut}
use Rattle.hv_store.specs.Access.{way_for}
use Rattle.hv_map.specs.Compose.{Looked, Named, Stopped, present, look, page_named, table_of, word_in, entry_of, no_write, no_fetch, every, slot_through, slot_of, reading, compose_slot, compose}
use Rattle.hv_map.specs.Carried.{IsShutBelow, IsCarried, WayLike, SlotLike, MapLike, ShutBelow, Agree}
use Rattle.hv_map.proofs.Slots.{slice_get-composed, length-composed}

-- the way h is the shut way g with its level raised by k
abbrev IsRaised : ℕ → Way → Way → Type 0
IsRaised k h (Open y) = ⊥
IsRaised k h (Shut l c p w) = h ≡ Shut (l + k) c p w

abbrev IsStoppedBelow : ℕ → Looked → Type 0
IsStoppedBelow k (Named e) = ⊥
IsStoppedBelow k (Stopped way) = IsShutBelow k way

abbrev LookedSame : ℕ → Looked → Looked → Type 0
LookedSame k (Named e) (Named e') = e ≡ e'
LookedSame k (Named e) (Stopped way) = ⊥
LookedSame k (Stopped way) (Named e) = ⊥
LookedSame k (Stopped h) (Stopped g) = IsRaised k h g

abbrev LookedLike : ℕ → Looked → Looked → Type 0
LookedLike k h g = IsStoppedBelow k h ⊎ LookedSame k h g

abbrev ReadLike : ℕ → List Slot → Option Way → Option Way → Type 0
ReadLike k F None None = Unit {0}
ReadLike k F None (Some g) = ⊥
ReadLike k F (Some h) None = ⊥
ReadLike k F (Some h) (Some g) = WayLike k F Read h g

reading_like : (k : ℕ) (F : List Slot) (o p : Option Slot) → SlotLike k F o p → ReadLike k F (option_map (λ (s : Slot). s.read) o) (option_map (λ (s : Slot). s.read) p)
reading_like k F None None h = tt
reading_like k F None (Some g) h = h
reading_like k F (Some s) None h = h
reading_like k F (Some s) (Some g) h = h Read

named_like : (k : ℕ) (h g : Looked) → LookedLike k h g → LookedLike k (page_named h) (page_named g)
named_like k (Named d) g (inl e) = absurd e
named_like k (Stopped way) g (inl e) = inl e
named_like k (Named d) (Named d') (inr e) = inr (ap (λ (w : ℕ). field_of w 12 20) e)
named_like k (Named d) (Stopped way) (inr e) = absurd e
named_like k (Stopped way) (Named d) (inr e) = absurd e
named_like k (Stopped h) (Stopped g) (inr e) = inr e

present_like : (k j i w : ℕ) → LookedLike k (present (j + k) i w) (present j i w)
present_like k j i w =
    elim (w % 2 == 0) as (λ b. LookedLike k (cond b (Stopped (Shut (j + k) 1 i None)) (Named w)) (cond b (Stopped (Shut j 1 i None)) (Named w))) [
      | true ↦ inr refl
      | false ↦ inr refl
    ]

module _ (k : ℕ) (F : List Slot) (S T : List ℕ) (below : ShutBelow k F) (agree : Agree F S T) where
  -- a word that is read through the way r, which F has for the page y
  open_like : (j i w y : ℕ) (s : Slot) (r : Way) → slice_get F y ≡ Some s → s.read ≡ r → w < 1024 → LookedLike k (look S (j + k) i w (Some r)) (look T j i w (Some (Open y)))
  open_like j i w y s (Open x) is e h =
      subst (λ (v : ℕ). LookedLike k (present (j + k) i v) (present j i (word_at T y w))) (sym (agree y x w s is e h)) (present_like k j i (word_at T y w))
  open_like j i w y s (Shut l c p word) is e h = inl (below y s Read l c p word is e)

  some_like : (j i w : ℕ) (h g : Way) → WayLike k F Read h g → w < 1024 → LookedLike k (look S (j + k) i w (Some h)) (look T j i w (Some g))
  some_like j i w (Open x) g (inl e) lt = absurd e
  some_like j i w (Shut l c p word) g (inl e) lt = inl e
  some_like j i w h (Open y) (inr e) lt =
      subst (λ (r : Way). LookedLike k (look S (j + k) i w (Some r)) (look T j i w (Some (Open y)))) (sym e.2) (open_like j i w y e.0 e.0.read e.1 refl lt)
  some_like j i w h (Shut l c p word) (inr e) lt =
      subst (λ (r : Way). LookedLike k (look S (j + k) i w (Some r)) (look T j i w (Some (Shut l c p word)))) (sym e) (inr refl)

  look_like : (j i w : ℕ) (h g : Option Way) → ReadLike k F h g → w < 1024 → LookedLike k (look S (j + k) i w h) (look T j i w g)
  look_like j i w None None e lt = inr refl
  look_like j i w None (Some g) e lt = absurd e
  look_like j i w (Some h) None e lt = absurd e
  look_like j i w (Some h) (Some g) e lt = some_like j i w h g e lt

  module _ (H G : List Slot) (like : MapLike k F H G) where
    page_like : (j i w u : ℕ) → w < 1024 → LookedLike k (look S (j + k) i w (reading H u)) (look T j i w (reading G u))
    page_like j i w u lt = look_like j i w (reading H u) (reading G u) (reading_like k F (slice_get H u) (slice_get G u) (like u)) lt

    table_like : (j t v i : ℕ) → i / 1024 < 1024 → LookedLike k (table_of S (reading H) (j + k) t v i) (table_of T (reading G) j t v i)
    table_like j t v i lt =
        elim (v == 2) as (λ b. LookedLike k (cond b (page_named (look S (j + k) i (i / 1024) (reading H t))) (Named (t + i / 1024))) (cond b (page_named (look T j i (i / 1024) (reading G t))) (Named (t + i / 1024)))) [
          | true ↦ named_like k (look S (j + k) i (i / 1024) (reading H t)) (look T j i (i / 1024) (reading G t)) (page_like j i (i / 1024) t lt)
          | false ↦ inr refl
        ]

    word_like : (j i : ℕ) (h g : Looked) → LookedLike k h g → LookedLike k (word_in S (reading H) (j + k) i h) (word_in T (reading G) j i g)
    word_like j i (Named u) g (inl e) = absurd e
    word_like j i (Stopped way) g (inl e) = inl e
    word_like j i (Named u) (Named u') (inr e) =
        let low : i % 1024 < 1024 = omega arith in
        subst (λ (y : ℕ). LookedLike k (look S (j + k) i (i % 1024) (reading H u)) (look T j i (i % 1024) (reading G y))) e (page_like j i (i % 1024) u low)
    word_like j i (Named u) (Stopped way) (inr e) = absurd e
    word_like j i (Stopped way) (Named u) (inr e) = absurd e
    word_like j i (Stopped h) (Stopped g) (inr e) = inr e

    entry_like : (j t v i : ℕ) → i / 1024 < 1024 → LookedLike k (entry_of S (reading H) (j + k) t v i) (entry_of T (reading G) j t v i)
    entry_like j t v i lt =
        word_like j i (table_of S (reading H) (j + k) t v i) (table_of T (reading G) j t v i) (table_like j t v i lt)

    -- where an entry may shut a way
    chosen_like : (b : Bool) (j c i : ℕ) (a : Access) (h g : Way) → WayLike k F a h g → WayLike k F a (cond b (Shut (j + k) c i None) h) (cond b (Shut j c i None) g)
    chosen_like true j c i a h g e = inr refl
    chosen_like false j c i a h g e = e

    placed_like : (j v i e : ℕ) (o p : Option Slot) → SlotLike k F o p → (a : Access) → WayLike k F a (way_for (slot_through (j + k) v i e o) a) (way_for (slot_through j v i e p) a)
    placed_like j v i e None None h Read = inr refl
    placed_like j v i e None None h Write = inr refl
    placed_like j v i e None None h Fetch = inr refl
    placed_like j v i e None (Some g) h a = absurd h
    placed_like j v i e (Some s) None h a = absurd h
    placed_like j v i e (Some s) (Some g) h Read = h Read
    placed_like j v i e (Some s) (Some g) h Write = chosen_like (no_write e) j 2 i Write s.write g.write (h Write)
    placed_like j v i e (Some s) (Some g) h Fetch = chosen_like (no_fetch v e) j 7 i Fetch s.fetch g.fetch (h Fetch)

    below_like : (h : Way) (a : Access) → IsShutBelow k h → IsShutBelow k (way_for (every h) a)
    below_like h Read e = e
    below_like h Write e = e
    below_like h Fetch e = e

    raised_like : (h : Way) (g : Way) (a : Access) → IsRaised k h g → IsCarried k F a (way_for (every h) a) (way_for (every g) a)
    raised_like h (Open y) a e = absurd e
    raised_like h (Shut l c p w) Read e = e
    raised_like h (Shut l c p w) Write e = e
    raised_like h (Shut l c p w) Fetch e = e

    slot_like : (j v i : ℕ) (h g : Looked) → LookedLike k h g → (a : Access) → WayLike k F a (way_for (slot_of H (j + k) v i h) a) (way_for (slot_of G j v i g) a)
    slot_like j v i (Named e) g (inl below) a = absurd below
    slot_like j v i (Stopped way) g (inl below) a = inl (below_like way a below)
    slot_like j v i (Named e) (Named e') (inr same) a =
        subst (λ (x : ℕ). WayLike k F a (way_for (slot_of H (j + k) v i (Named e)) a) (way_for (slot_of G j v i (Named x)) a)) same
        (placed_like j v i e (slice_get H (field_of e 12 20)) (slice_get G (field_of e 12 20)) (like (field_of e 12 20)) a)
    slot_like j v i (Named e) (Stopped way) (inr same) a = absurd same
    slot_like j v i (Stopped way) (Named e) (inr same) a = absurd same
    slot_like j v i (Stopped h) (Stopped g) (inr same) a = inr (raised_like h g a same)

    composed_slot_like : (j t v i : ℕ) → i / 1024 < 1024 → (a : Access) → WayLike k F a (way_for (compose_slot S H (j + k) t v i) a) (way_for (compose_slot T G j t v i) a)
    unfolding compose_slot
    composed_slot_like j t v i lt = slot_like j v i (entry_of S (reading H) (j + k) t v i) (entry_of T (reading G) j t v i) (entry_like j t v i lt)

    pub composed_like : (j n t v : ℕ) → n ≤ 1048576 → MapLike k F (compose S H (j + k) n t v) (compose T G j n t v)
    composed_like j n t v bound i = elim (cases_lt i n) [
      | inl h ↦
          let lt : i / 1024 < 1024 = omega arith in
          both_at (slice_get (compose S H (j + k) n t v) i) (slice_get (compose T G j n t v) i) (Some (compose_slot S H (j + k) t v i)) (Some (compose_slot T G j t v i))
          (slice_get-composed S H (j + k) n t v i h) (slice_get-composed T G j n t v i h) (composed_slot_like j t v i lt)
      | inr h ↦
          let past : length (compose S H (j + k) n t v) ≤ i = omega (arith, length-composed S H (j + k) n t v) in
          let past' : length (compose T G j n t v) ≤ i = omega (arith, length-composed T G j n t v) in
          both_at (slice_get (compose S H (j + k) n t v) i) (slice_get (compose T G j n t v) i) None None
          (slice_get_past (compose S H (j + k) n t v) i past) (slice_get_past (compose T G j n t v) i past') tt
    ]
      where
        both_at : (o p x y : Option Slot) → o ≡ x → p ≡ y → SlotLike k F x y → SlotLike k F o p
        both_at o p x y e f h = subst (λ (z : Option Slot). SlotLike k F z p) (sym e) (subst (λ (z : Option Slot). SlotLike k F x z) (sym f) h)
