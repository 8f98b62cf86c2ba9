-- What a child's map has from its parent's.
use Rattle.std.proofs.Common.{◌≡◌, ℕ, ◌+◌, ◌/◌, ◌%◌, ◌⊎◌, inl, inr, Bool, true, false, cond, ◌==◌, List, Option, Some, None, refl, ap, ◌∙◌, sym, subst, slice_get}
use Rattle.std.proofs.lemmas.Option.{same_Some}
use Rattle.hv_word.specs.Words.{field_of}
use Rattle.hv_word.specs.Storage.{word_at}
use Rattle.hv_store.specs.declared.access.Access.{Access}
use Rattle.hv_store.specs.declared.access.Access.TheVariants.{Read, Write, Fetch}
use Rattle.hv_store.specs.declared.access.Slot.{Slot}
use Rattle.hv_store.specs.declared.access.Way.{Way}
use Rattle.hv_store.specs.declared.access.Way.TheVariants.{Open, Shut}
use Rattle.hv_store.specs.Access.{way_for}
use Rattle.hv_map.specs.Compose.{Looked, Named, Stopped, present, look, page_named, table_of, word_in, entry_of, no_write, no_fetch, every, granted, slot_through, slot_of, reading, compose_slot, compose}
use Rattle.hv_map.specs.Carried.{Opens, ShutAt, OpensSame}
use Rattle.hv_map.proofs.Slots.{composed_at}

-- a way for reading is that of a slot
pub reading_slot : (F : List Slot) (u : ℕ) (way : Way) → reading F u ≡ Some way → (s : Slot) × (slice_get F u ≡ Some s) × (s.read ≡ way)
reading_slot F u way e = go (slice_get F u) refl
  where
    go : (o : Option Slot) → slice_get F u ≡ o → (s : Slot) × (slice_get F u ≡ Some s) × (s.read ≡ way)
    go None p = absurd (let q : None ≡ Some way = ap (Rattle.std.specs.Option.option_map (λ (s : Slot). s.read)) (sym p) ∙ e in cc)
    go (Some s) p = (s, p, same_Some s.read way (ap (Rattle.std.specs.Option.option_map (λ (r : Slot). r.read)) (sym p) ∙ e))

-- R holds of each slot that a child's map can have
pub record Handed (F : List Slot) (j : ℕ) (R : Slot → Type 0) : Type 0 where
  pub own : (c i : ℕ) → R (every (Shut j c i None))
  pub passed : (u : ℕ) (s : Slot) (l c p k : ℕ) (w : Option ℕ) → slice_get F u ≡ Some s → s.read ≡ Shut l c p w → R (every (Shut l c p (Some k)))
  pub kept : (q v e i : ℕ) (s : Slot) → slice_get F q ≡ Some s → R (granted j v i e s)

-- R of the slot of a page where it can't be looked up
Stops : (Slot → Type 0) → Looked → Type 0
Stops R (Named e) = Unit {0}
Stops R (Stopped way) = R (every way)

module _ (S : List ℕ) (F : List Slot) (j : ℕ) (R : Slot → Type 0) (facts : Handed F j R) where
  present_stops : (i w : ℕ) → Stops R (present j i w)
  unfolding Stops
  present_stops i w = elim (w % 2 == 0) as (λ b. Stops R (cond b (Stopped (Shut j 1 i None)) (Named w))) [ true ↦ facts.own 1 i | false ↦ tt ]

  look_stops : (i k u : ℕ) (way : Option Way) → reading F u ≡ way → Stops R (look S j i k way)
  unfolding Stops
  look_stops i k u None e = facts.own 4 i
  look_stops i k u (Some (Open g)) e = present_stops i (word_at S g k)
  look_stops i k u (Some (Shut l c p w)) e =
      let r = reading_slot F u (Shut l c p w) e in
      facts.passed u r.0 l c p _ w r.1 r.2

  named_stops : (l : Looked) → Stops R l → Stops R (page_named l)
  unfolding Stops
  named_stops (Named d) h = tt
  named_stops (Stopped way) h = h

  table_stops : (t v i : ℕ) → Stops R (table_of S (reading F) j t v i)
  unfolding Stops
  table_stops t v i = elim (v == 2) as (λ b. Stops R (cond b (page_named (look S j i (i / 1024) (reading F t))) (Named (t + i / 1024)))) [
    | true ↦ named_stops (look S j i (i / 1024) (reading F t)) (look_stops i (i / 1024) t (reading F t) refl)
    | false ↦ tt
  ]

  word_stops : (i : ℕ) (l : Looked) → Stops R l → Stops R (word_in S (reading F) j i l)
  unfolding Stops
  word_stops i (Named u) h = look_stops i (i % 1024) u (reading F u) refl
  word_stops i (Stopped way) h = h

  placed_holds : (v i e q : ℕ) (o : Option Slot) → slice_get F q ≡ o → R (slot_through j v i e o)
  placed_holds v i e q None p = facts.own 3 i
  placed_holds v i e q (Some s) p = facts.kept q v e i s p

  slot_holds : (v i : ℕ) (l : Looked) → Stops R l → R (slot_of F j v i l)
  unfolding Stops
  slot_holds v i (Named e) h = placed_holds v i e (field_of e 12 20) (slice_get F (field_of e 12 20)) refl
  slot_holds v i (Stopped way) h = h

  pub handed_slot : (t v i : ℕ) → R (compose_slot S F j t v i)
  unfolding compose_slot
  handed_slot t v i = slot_holds v i (entry_of S (reading F) j t v i) (word_stops i (table_of S (reading F) j t v i) (table_stops t v i))

  pub handed : (n t v i : ℕ) (s : Slot) → slice_get (compose S F j n t v) i ≡ Some s → R s
  handed n t v i s e = subst R (sym (composed_at S F j n t v i s e)) (handed_slot t v i)

-- one way that is shut for every access opens nothing
every_shut : (l c p : ℕ) (w : Option ℕ) (a : Access) (x : ℕ) → way_for (every (Shut l c p w)) a ≡ Open x → ⊥
every_shut l c p w Read x e = cc
every_shut l c p w Write x e = cc
every_shut l c p w Fetch x e = cc

every_level : (l c p : ℕ) (w : Option ℕ) (a : Access) (l' c' p' : ℕ) (w' : Option ℕ) → way_for (every (Shut l c p w)) a ≡ Shut l' c' p' w' → l' ≡ l
every_level l c p w Read l' c' p' w' e = cc
every_level l c p w Write l' c' p' w' e = cc
every_level l c p w Fetch l' c' p' w' e = cc

-- where an entry may shut a way: what is open is the parent's way, and what is shut is it too or is shut by the entry
chosen_open : (b : Bool) (j c i x : ℕ) (way : Way) → cond b (Shut j c i None) way ≡ Open x → way ≡ Open x
chosen_open true j c i x way e = absurd (let f : Shut j c i None ≡ Open x = e in cc)
chosen_open false j c i x way e = e

chosen_shut : (b : Bool) (j c i l c' p : ℕ) (w : Option ℕ) (way : Way) → cond b (Shut j c i None) way ≡ Shut l c' p w → (l ≡ j) ⊎ (way ≡ Shut l c' p w)
chosen_shut true j c i l c' p w way e = inl (let f : Shut j c i None ≡ Shut l c' p w = e in cc)
chosen_shut false j c i l c' p w way e = inr e

module _ (F : List Slot) (j : ℕ) where
  -- a page that is open in a child's map is open in its parent's, for the same access
  IsOpenBefore : Slot → Type 0
  IsOpenBefore s = (a : Access) (x : ℕ) → way_for s a ≡ Open x → Opens F a x

  granted_opens : (q v e i : ℕ) (s : Slot) → slice_get F q ≡ Some s → (a : Access) (x : ℕ) → way_for (granted j v i e s) a ≡ Open x → Opens F a x
  granted_opens q v e i s is Read x h = (q, s, is, h)
  granted_opens q v e i s is Write x h = (q, s, is, chosen_open (no_write e) j 2 i x s.write h)
  granted_opens q v e i s is Fetch x h = (q, s, is, chosen_open (no_fetch v e) j 7 i x s.fetch h)

  opens_facts : Handed F j IsOpenBefore
  unfolding IsOpenBefore
  opens_facts = record {
    own = λ c i. λ a x e. absurd (every_shut j c i None a x e);
    passed = λ u s l c p k w is shut. λ a x e. absurd (every_shut l c p (Some k) a x e);
    kept = λ q v e i s is. granted_opens q v e i s is;
  }

  pub composed_opens : (S : List ℕ) (n t v i : ℕ) (s : Slot) (a : Access) (x : ℕ) → slice_get (compose S F j n t v) i ≡ Some s → way_for s a ≡ Open x → Opens F a x
  unfolding IsOpenBefore
  composed_opens S n t v i s a x e = handed S F j IsOpenBefore opens_facts n t v i s e a x

  -- what is open for writing or fetching is the page that is open for reading
  IsSame : Slot → Type 0
  IsSame s = (a : Access) (x : ℕ) → way_for s a ≡ Open x → s.read ≡ Open x

  granted_same : OpensSame F → (q v e i : ℕ) (s : Slot) → slice_get F q ≡ Some s → (a : Access) (x : ℕ) → way_for (granted j v i e s) a ≡ Open x → s.read ≡ Open x
  granted_same same q v e i s is Read x h = h
  granted_same same q v e i s is Write x h = same q s Write x is (chosen_open (no_write e) j 2 i x s.write h)
  granted_same same q v e i s is Fetch x h = same q s Fetch x is (chosen_open (no_fetch v e) j 7 i x s.fetch h)

  same_facts : OpensSame F → Handed F j IsSame
  unfolding IsSame
  same_facts same = record {
    own = λ c i. λ a x e. absurd (every_shut j c i None a x e);
    passed = λ u s l c p k w is shut. λ a x e. absurd (every_shut l c p (Some k) a x e);
    kept = λ q v e i s is. granted_same same q v e i s is;
  }

  pub composed_same : (S : List ℕ) (n t v : ℕ) → OpensSame F → OpensSame (compose S F j n t v)
  unfolding IsSame
  composed_same S n t v same i s a x e = handed S F j IsSame (same_facts same) n t v i s e a x

  -- what is shut is shut at the parent's level, or is shut before at the same level
  IsLevelled : Slot → Type 0
  IsLevelled s = (a : Access) (l c p : ℕ) (w : Option ℕ) → way_for s a ≡ Shut l c p w → (l ≡ j) ⊎ ShutAt F l

  before : (q l c p : ℕ) (w : Option ℕ) (s : Slot) (a : Access) → slice_get F q ≡ Some s → (l ≡ j) ⊎ (way_for s a ≡ Shut l c p w) → (l ≡ j) ⊎ ShutAt F l
  before q l c p w s a is (inl e) = inl e
  before q l c p w s a is (inr e) = inr (q, s, a, c, p, w, is, e)

  granted_level : (q v e i : ℕ) (s : Slot) → slice_get F q ≡ Some s → (a : Access) (l c p : ℕ) (w : Option ℕ) → way_for (granted j v i e s) a ≡ Shut l c p w → (l ≡ j) ⊎ ShutAt F l
  granted_level q v e i s is Read l c p w h = before q l c p w s Read is (inr h)
  granted_level q v e i s is Write l c p w h = before q l c p w s Write is (chosen_shut (no_write e) j 2 i l c p w s.write h)
  granted_level q v e i s is Fetch l c p w h = before q l c p w s Fetch is (chosen_shut (no_fetch v e) j 7 i l c p w s.fetch h)

  passed_level : (u : ℕ) (s : Slot) (l c p k : ℕ) (w : Option ℕ) → slice_get F u ≡ Some s → s.read ≡ Shut l c p w → (a : Access) (l' c' p' : ℕ) (w' : Option ℕ) → way_for (every (Shut l c p (Some k))) a ≡ Shut l' c' p' w' → (l' ≡ j) ⊎ ShutAt F l'
  passed_level u s l c p k w is shut a l' c' p' w' e =
      let same : l ≡ l' = sym (every_level l c p (Some k) a l' c' p' w' e) in
      inr (u, s, Read, c, p, w, is, shut ∙ ap (λ (h : ℕ). Shut h c p w) same)

  level_facts : Handed F j IsLevelled
  unfolding IsLevelled
  level_facts = record {
    own = λ c i. λ a l c' p w e. inl (every_level j c i None a l c' p w e);
    passed = λ u s l c p k w is shut. passed_level u s l c p k w is shut;
    kept = λ q v e i s is. granted_level q v e i s is;
  }

  pub composed_level : (S : List ℕ) (n t v i : ℕ) (s : Slot) (a : Access) (l c p : ℕ) (w : Option ℕ) → slice_get (compose S F j n t v) i ≡ Some s → way_for s a ≡ Shut l c p w → (l ≡ j) ⊎ ShutAt F l
  unfolding IsLevelled
  composed_level S n t v i s a l c p w e = handed S F j IsLevelled level_facts n t v i s e a l c p w
