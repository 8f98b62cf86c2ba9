-- A composed map depends on the words of its table alone.
use Rattle.std.proofs.Common.{◌≡◌, ℕ, zero, suc, ◌+◌, ◌/◌, ◌%◌, ◌<◌, ◌≤◌, Bool, true, false, cond, ◌==◌, List, ◌∷◌, map, Option, Some, None, refl, ap, ◌∙◌, arith}
use Rattle.std.specs.List.{range_with_len}
use Rattle.std.proofs.lemmas.Bool.{eqb-true}
use Rattle.hv_word.specs.Storage.{word_at}
use Rattle.hv_store.specs.declared.access.Slot.{Slot}
use Rattle.hv_store.specs.declared.access.Way.{Way}
use Rattle.hv_store.specs.declared.access.Way.TheVariants.{Open, Shut}
use Rattle.hv_map.specs.Compose.{Looked, Named, Stopped, present, look, page_named, table_of, word_in, entry_of, reading, slot_of, compose_slot, compose, EachTableWord}

pub map_range_alike : {X : Type 0} (f g : ℕ → X) (a n : ℕ) → ((i : ℕ) → a ≤ i → i < a + n → f i ≡ g i) → map f (range_with_len a n) ≡ map g (range_with_len a n)
map_range_alike f g a zero h = refl
map_range_alike f g a (suc n) h =
    let rest = map_range_alike f g (a + 1) n (λ i low high. h i (omega arith) (omega arith)) in
    ap (λ x. x ∷ map f (range_with_len (a + 1) n)) (h a (omega arith) (omega arith)) ∙ ap (λ xs. g a ∷ xs) rest

pub look_agrees : (S A : List ℕ) (j i k : ℕ) (way : Option Way) → ((g : ℕ) → way ≡ Some (Open g) → word_at S g k ≡ word_at A g k) → look S j i k way ≡ look A j i k way
look_agrees S A j i k None h = refl
look_agrees S A j i k (Some (Open g)) h = ap (present j i) (h g refl)
look_agrees S A j i k (Some (Shut l c p w)) h = refl

table_agrees : (S A : List ℕ) (reads : ℕ → Option Way) (j t v i : ℕ) → ((g : ℕ) → v ≡ 2 → reads t ≡ Some (Open g) → word_at S g (i / 1024) ≡ word_at A g (i / 1024)) → table_of S reads j t v i ≡ table_of A reads j t v i
table_agrees S A reads j t v i h = go (v == 2) refl
  where
    go : (b : Bool) → (v == 2) ≡ b → cond b (page_named (look S j i (i / 1024) (reads t))) (Named (t + i / 1024)) ≡ cond b (page_named (look A j i (i / 1024) (reads t))) (Named (t + i / 1024))
    go true e = ap page_named (look_agrees S A j i (i / 1024) (reads t) (λ g p. h g (eqb-true v 2 e) p))
    go false e = refl

word_agrees : (S A : List ℕ) (reads : ℕ → Option Way) (j i : ℕ) (l : Looked) → ((u g : ℕ) → l ≡ Named u → reads u ≡ Some (Open g) → word_at S g (i % 1024) ≡ word_at A g (i % 1024)) → word_in S reads j i l ≡ word_in A reads j i l
word_agrees S A reads j i (Named u) h = look_agrees S A j i (i % 1024) (reads u) (λ g p. h u g refl p)
word_agrees S A reads j i (Stopped way) h = refl

pub entry_agrees : (S A : List ℕ) (reads : ℕ → Option Way) (j t v i : ℕ)
    → ((g : ℕ) → v ≡ 2 → reads t ≡ Some (Open g) → word_at S g (i / 1024) ≡ word_at A g (i / 1024))
    → ((u g : ℕ) → table_of S reads j t v i ≡ Named u → reads u ≡ Some (Open g) → word_at S g (i % 1024) ≡ word_at A g (i % 1024))
    → entry_of S reads j t v i ≡ entry_of A reads j t v i
entry_agrees S A reads j t v i d h =
    word_agrees S A reads j i (table_of S reads j t v i) h
    ∙ ap (word_in A reads j i) (table_agrees S A reads j t v i d)

pub composed_agrees : (S A : List ℕ) (F : List Slot) (j n t v : ℕ) → EachTableWord (λ g w. word_at S g w ≡ word_at A g w) S F j n t v → compose S F j n t v ≡ compose A F j n t v
unfolding compose compose_slot
composed_agrees S A F j n t v each =
    map_range_alike (compose_slot S F j t v) (compose_slot A F j t v) 0 n (λ i low high.
    let h : i < n = omega arith in
    ap (slot_of F j v i) (entry_agrees S A (reading F) j t v i (λ g e p. each.directory i g h e p) (λ u g e p. each.table i u g h e p)))
