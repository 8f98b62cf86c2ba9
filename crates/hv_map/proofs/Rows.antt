-- The cases of a child's map, one by one, in the form in which code comes to them: each number that was read is a variable
-- with an equation.
use Rattle.std.proofs.Common.{◌≡◌, ◌≢◌, ℕ, ◌+◌, ◌/◌, ◌%◌, ◌≤◌, Bool, cond, List, length, Option, Some, None, ap, ◌∙◌, sym, slice_get}
use Rattle.std.specs.Option.{option_map, unwrap_or}
use Rattle.std.proofs.lemmas.Option.{slice_get_past}
use Rattle.std.proofs.lemmas.Bool.{eq-eqb, ne_eqb}
use Rattle.hv_word.specs.Words.{field_of}
use Rattle.hv_word.specs.Storage.{word_at}
use Rattle.hv_store.specs.declared.access.Slot.{Slot}
use Rattle.hv_store.specs.declared.access.Way.{Way}
use Rattle.hv_store.specs.declared.access.Way.TheVariants.{Open, Shut}
use Rattle.hv_map.specs.Compose.{Looked, Named, Stopped, present, look, page_named, table_of, word_in, entry_of, every, granted, slot_through, slot_of, reading, compose_slot}

-- one word of a directory or a table, in the parent's page u
module _ (S : List ℕ) (F : List Slot) (j i k u : ℕ) where
  pub look_beyond : length F ≤ u → look S j i k (reading F u) ≡ Stopped (Shut j 4 i None)
  look_beyond h = ap (λ (o : Option Slot). look S j i k (option_map (λ (s : Slot). s.read) o)) (slice_get_past F u h)

  look_read : (s : Slot) (way : Way) → slice_get F u ≡ Some s → s.read ≡ way → look S j i k (reading F u) ≡ look S j i k (Some way)
  look_read s way is e =
      ap (λ (o : Option Slot). look S j i k (option_map (λ (r : Slot). r.read) o)) is
      ∙ ap (λ (w : Way). look S j i k (Some w)) e

  pub look_shut : (s : Slot) (l c p : ℕ) (w : Option ℕ) → slice_get F u ≡ Some s → s.read ≡ Shut l c p w → look S j i k (reading F u) ≡ Stopped (Shut l c p (Some (unwrap_or w k)))
  look_shut s l c p w is e = look_read s (Shut l c p w) is e

  pub look_absent : (s : Slot) (g w : ℕ) → slice_get F u ≡ Some s → s.read ≡ Open g → w ≡ word_at S g k → w % 2 ≡ 0 → look S j i k (reading F u) ≡ Stopped (Shut j 1 i None)
  look_absent s g w is e at z =
      look_read s (Open g) is e
      ∙ ap (present j i) (sym at)
      ∙ ap (λ (b : Bool). cond b (Stopped (Shut j 1 i None)) (Named w)) (eq-eqb (w % 2) 0 z)

  pub look_named : (s : Slot) (g w : ℕ) → slice_get F u ≡ Some s → s.read ≡ Open g → w ≡ word_at S g k → w % 2 ≢ 0 → look S j i k (reading F u) ≡ Named w
  look_named s g w is e at z =
      look_read s (Open g) is e
      ∙ ap (present j i) (sym at)
      ∙ ap (λ (b : Bool). cond b (Stopped (Shut j 1 i None)) (Named w)) (ne_eqb (w % 2) 0 z)

-- the parent's page with the table word
module _ (S : List ℕ) (reads : ℕ → Option Way) (j t v i : ℕ) where
  pub table_plain : v ≢ 2 → table_of S reads j t v i ≡ Named (t + i / 1024)
  table_plain h = ap (λ (b : Bool). cond b (page_named (look S j i (i / 1024) (reads t))) (Named (t + i / 1024))) (ne_eqb v 2 h)

  pub table_directory : v ≡ 2 → table_of S reads j t v i ≡ page_named (look S j i (i / 1024) (reads t))
  table_directory h = ap (λ (b : Bool). cond b (page_named (look S j i (i / 1024) (reads t))) (Named (t + i / 1024))) (eq-eqb v 2 h)

  pub table_named : (d : ℕ) → v ≡ 2 → look S j i (i / 1024) (reads t) ≡ Named d → table_of S reads j t v i ≡ Named (field_of d 12 20)
  table_named d h e = table_directory h ∙ ap page_named e

  pub table_stopped : (way : Way) → v ≡ 2 → look S j i (i / 1024) (reads t) ≡ Stopped way → table_of S reads j t v i ≡ Stopped way
  table_stopped way h e = table_directory h ∙ ap page_named e

  -- the table word
  pub entry_stopped : (way : Way) → table_of S reads j t v i ≡ Stopped way → entry_of S reads j t v i ≡ Stopped way
  entry_stopped way e = ap (word_in S reads j i) e

  pub entry_in : (u : ℕ) (found : Looked) → table_of S reads j t v i ≡ Named u → look S j i (i % 1024) (reads u) ≡ found → entry_of S reads j t v i ≡ found
  entry_in u found e f = ap (word_in S reads j i) e ∙ f

-- the slot
module _ (S : List ℕ) (F : List Slot) (j t v i : ℕ) where
  pub slot_stopped : (way : Way) → entry_of S (reading F) j t v i ≡ Stopped way → compose_slot S F j t v i ≡ every way
  unfolding compose_slot
  slot_stopped way e = ap (slot_of F j v i) e

  pub slot_beyond : (e q : ℕ) → entry_of S (reading F) j t v i ≡ Named e → q ≡ field_of e 12 20 → length F ≤ q → compose_slot S F j t v i ≡ every (Shut j 3 i None)
  unfolding compose_slot
  slot_beyond e q is at h =
      ap (slot_of F j v i) is
      ∙ ap (λ (x : ℕ). slot_through j v i e (slice_get F x)) (sym at)
      ∙ ap (slot_through j v i e) (slice_get_past F q h)

  pub slot_granted : (e q : ℕ) (s : Slot) → entry_of S (reading F) j t v i ≡ Named e → q ≡ field_of e 12 20 → slice_get F q ≡ Some s → compose_slot S F j t v i ≡ granted j v i e s
  unfolding compose_slot
  slot_granted e q s is at f =
      ap (slot_of F j v i) is
      ∙ ap (λ (x : ℕ). slot_through j v i e (slice_get F x)) (sym at)
      ∙ ap (slot_through j v i e) f
