-- A step changes no word that another machine stands on, where it may not.
use Rattle.std.proofs.Common.{◌≡◌, ◌≢◌, ℕ, ◌+◌, ◌*◌, ◌<◌, ◌≤◌, inl, inr, Bool, true, false, ◌&&◌, List, [], ◌∷◌, ◌++◌, map, Option, Some, None, refl, ap, ◌∙◌, sym, subst, arith, slice_get}
use Rattle.std.specs.Prelude.{◌==◌, ◌/◌, ◌%◌, slice_index}
use Rattle.std.specs.Option.{option_to_list}
use Rattle.std.proofs.lemmas.Bool.{and_parts, eq-eqb, eqb-true, or_left, or_right, or_cases, false≢true}
use Rattle.std.proofs.lemmas.Bool.Decides.{eqb_tells}
use Rattle.std.proofs.lemmas.Option.{same_Some}
use Rattle.hv_word.specs.Words.{has}
use Rattle.hv_word.specs.Storage.{page_count, word_at}
use Rattle.hv_cpu.specs.Regs.{Regs}
use Rattle.hv_cpu.specs.Lines.{unlined}
use Rattle.hv_store.specs.declared.access.Slot.{Slot}
use Rattle.hv_store.specs.declared.access.Way.{Way}
use Rattle.hv_store.specs.declared.access.Way.TheVariants.{Open, Shut}
use Rattle.hv_store.specs.Access.{identity}
use Rattle.hv_exec.specs.Changes.{leads_to, opens_for_writing}
use Rattle.hv_map.specs.Item.{Item}
use Rattle.hv_map.specs.Apart.{blocks_of, open_page, open_pages, tables_along}
use Rattle.hv_map.specs.Chain.{map_along, pin_of, running_path}
use Rattle.hv_map.specs.Links.{last_block, syllable_of}
use Rattle.hv_nest.specs.declared.outcome.StepKind.TheVariants.{Worked as WorkedKind, Recall, Fault}
use Rattle.hv_nest.specs.State.{State}
use Rattle.hv_nest.specs.Step.{Stepped, Worked, Recalled, Faulted, Barred, host_step_of}
use Rattle.hv_nest.specs.Move.{moved_at, moved_by, moved_of, running_at, running_of}
use Rattle.hv_nest.specs.Frame.{IsFramed, IsFramedBy, is_kept_in, is_kept_of, is_kept_word}
use Rattle.hv_nest.specs.Watched.{are_same, but_lines, chain_foot, foot, keeps_foot, own_places, page_foot, same_status, standing_places}
use Rattle.hv_nest.proofs.Frames.{host_framed}
use Rattle.hv_whole.proofs.Apartness.{each_word, machines_sized}
use Rattle.hv_whole.proofs.Members.{Has, has_left, has_right}
use Rattle.hv_isolate.specs.May.{foot_pages, is_may, meet, own_pages, written_pages}
use Rattle.hv_isolate.specs.Untouched.{IsUntouched}
use Rattle.hv_isolate.proofs.Places.{Each, each_append, each_without, chain_places, block_places, page_places, blocks_each}

has_true : (a : ℕ) (xs : List ℕ) → Has a xs → has a xs ≡ true
has_true a [] h = absurd h
has_true a (b ∷ bs) (inl e) = or_left (a == b) (has a bs) (eq-eqb a b e)
has_true a (b ∷ bs) (inr h) = or_right (a == b) (has a bs) (has_true a bs h)

meets : (g : ℕ) (pages others : List ℕ) → Has g pages → Has g others → meet pages others ≡ true
meets g [] others h k = absurd h
meets g (p ∷ pages) others (inl e) k = or_left (has p others) (meet pages others) (ap (λ (q : ℕ). has q others) (sym e) ∙ has_true g others k)
meets g (p ∷ pages) others (inr h) k = or_right (has p others) (meet pages others) (meets g pages others h k)

-- a page that the map opens for writing
has_written : (F : List Slot) (g : ℕ) → opens_for_writing F g ≡ true → Has g (written_pages F)
has_written [] g e = absurd (false≢true e)
has_written (s ∷ F) g e = elim (or_cases (leads_to g s.write) (opens_for_writing F g) e) [
  | inl f ↦ has_left g (open_page s.write) (written_pages F) (by s.write f)
  | inr f ↦ has_right g (open_page s.write) (written_pages F) (has_written F g f)
]
  where
    by : (way : Way) → leads_to g way ≡ true → Has g (open_page way)
    by (Open h) f = inl (sym (eqb-true h g f))
    by (Shut l c p w) f = absurd (false≢true f)

-- a word of a block on the way
kept_block : (items : List Item) (q : ℕ) → is_kept_of items q ≡ true → Has (q / 1024) (blocks_of items)
kept_block [] q e = absurd (false≢true e)
kept_block (x ∷ xs) q e = elim (or_cases (is_kept_in x.block q) (is_kept_of xs q) e) [
  | inl f ↦ inl (eqb-true (q / 1024) x.block (and_parts (q / 1024 == x.block) (is_kept_word (q % 1024)) f).0)
  | inr f ↦ inr (kept_block xs q f)
]

kept_word : (items : List Item) (q : ℕ) → is_kept_of items q ≡ true → is_kept_word (q % 1024) ≡ true
kept_word [] q e = absurd (false≢true e)
kept_word (x ∷ xs) q e = elim (or_cases (is_kept_in x.block q) (is_kept_of xs q) e) [
  | inl f ↦ (and_parts (q / 1024 == x.block) (is_kept_word (q % 1024)) f).1
  | inr f ↦ kept_word xs q f
]

page_at : (g w : ℕ) → w < 1024 → (1024 * g + w) / 1024 ≡ g
page_at g w low = omega arith

word_of : (g w : ℕ) → w < 1024 → (1024 * g + w) % 1024 ≡ w
word_of g w low = omega arith

-- the words from which a block's map is read hold no registers and no fault
map_word : (w : ℕ) → 65 ≤ w → w ≤ 67 → is_kept_word w ≡ true → ⊥
map_word w low high e = elim (eqb_tells w 65) [
  | inl a ↦ false≢true (ap is_kept_word (sym a.1) ∙ e)
  | inr a ↦ elim (eqb_tells w 66) [
    | inl b ↦ false≢true (ap is_kept_word (sym b.1) ∙ e)
    | inr b ↦
        let not_first : w ≢ 65 = a.1 in
        let not_second : w ≢ 66 = b.1 in
        let last : w ≡ 67 = omega arith in
        false≢true (ap is_kept_word (sym last) ∙ e)
  ]
]

last_is : (items : List Item) (g : ℕ) → last_block items ≡ Some g → Has g (blocks_of items)
last_is [] g e = absurd (let f : None ≡ Some g = e in cc)
last_is (x ∷ []) g e = inl (sym (same_Some x.block g e))
last_is (x ∷ (y ∷ ys)) g e = inr (last_is (y ∷ ys) g e)

last_own : (o : Option ℕ) (g : ℕ) → o ≡ Some g → Has g (option_to_list o)
last_own None g e = absurd (let f : None ≡ Some g = e in cc)
last_own (Some b) g e = inl (sym (same_Some b g e))

-- each word that is the same is so
pub same_all : (S T : List ℕ) (ps : List ℕ) → Each (λ q. slice_index S q ≡ slice_index T q) ps → are_same ps S T ≡ true
unfolding are_same
same_all S T [] p = refl
same_all S T (q ∷ ps) p = ap (λ (t : Bool). t && are_same ps S T) (eq-eqb (slice_index S q) (slice_index T q) p.0) ∙ same_all S T ps p.1

-- where a step of the machine at the end of `a`, whose map is that of the storage S, comes from the storage U to T
module _ (S U T : List ℕ) (a b : List Item) (frame : IsFramed U (map_along S a) a T) (not_may : is_may S a b ≡ false) where
  abbrev Stays : ℕ → Type 0
  Stays q = slice_index U q ≡ slice_index T q

  no_writing : (g : ℕ) → opens_for_writing (map_along S a) g ≡ true → Has g (foot_pages S b) → ⊥
  no_writing g e h =
      false≢true (sym not_may ∙ or_left (meet (written_pages (map_along S a)) (foot_pages S b)) (meet (blocks_of a) (own_pages S b)) (meets g (written_pages (map_along S a)) (foot_pages S b) (has_written (map_along S a) g e) h))

  no_block : (g : ℕ) → Has g (blocks_of a) → Has g (own_pages S b) → ⊥
  no_block g k h =
      false≢true (sym not_may ∙ or_right (meet (written_pages (map_along S a)) (foot_pages S b)) (meet (blocks_of a) (own_pages S b)) (meets g (blocks_of a) (own_pages S b) k h))

  stays : (q : ℕ) → Has (q / 1024) (foot_pages S b) → (is_kept_of a q ≡ true → ⊥) → Stays q
  stays q h not_kept = elim (eqb_tells (slice_index U q) (slice_index T q)) [
    | inl e ↦ e.1
    | inr ne ↦ elim (or_cases (opens_for_writing (map_along S a) (q / 1024)) (is_kept_of a q) (frame q ne.1)) [
      | inl e ↦ absurd (no_writing (q / 1024) e h)
      | inr e ↦ absurd (not_kept e)
    ]
  ]

  -- a word of a page that isn't there for a block alone
  stays_own : (g w : ℕ) → w < 1024 → Has g (foot_pages S b) → Has g (own_pages S b) → Stays (1024 * g + w)
  stays_own g w low h k =
      let at : (1024 * g + w) / 1024 ≡ g = page_at g w low in
      stays (1024 * g + w) (subst (λ (p : ℕ). Has p (foot_pages S b)) (sym at) h)
      (λ e. no_block g (subst (λ (p : ℕ). Has p (blocks_of a)) at (kept_block a (1024 * g + w) e)) k)

  -- a word of a block from which a map is read
  stays_block : (g w : ℕ) → 65 ≤ w → w ≤ 67 → Has g (foot_pages S b) → Stays (1024 * g + w)
  stays_block g w low high h =
      let small : w < 1024 = omega arith in
      let at : (1024 * g + w) / 1024 ≡ g = page_at g w small in
      stays (1024 * g + w) (subst (λ (p : ℕ). Has p (foot_pages S b)) (sym at) h)
      (λ e. map_word w low high (ap is_kept_word (sym (word_of g w small)) ∙ kept_word a (1024 * g + w) e))

  abbrev tables : List ℕ
  tables = tables_along S (identity (page_count S)) 0 b

  abbrev opens : List ℕ
  opens = open_pages (map_along S b)

  own_last : (g w : ℕ) → last_block b ≡ Some g → w < 1024 → Stays (1024 * g + w)
  own_last g w e low =
      stays_own g w low (has_left g (blocks_of b) (tables ++ opens) (last_is b g e)) (has_left g (option_to_list (last_block b)) (tables ++ opens) (last_own (last_block b) g e))

  own_rest : (g w : ℕ) → Has g (tables ++ opens) → w < 1024 → Stays (1024 * g + w)
  own_rest g w h low =
      stays_own g w low (has_right g (blocks_of b) (tables ++ opens) h) (has_right g (option_to_list (last_block b)) (tables ++ opens) h)

  all_stay : pin_of S (map syllable_of b) ≡ Some b → Each Stays (standing_places S b)
  unfolding standing_places pin_of
  all_stay there =
      each_append Stays (chain_foot S (identity (page_count S)) 0 b) (own_places (last_block b) ++ page_foot (map_along S b))
      (chain_places Stays S (identity (page_count S)) 0 b
      (each_word (λ g w. Stays (1024 * g + w)) S (identity (page_count S)) 0 b (machines_sized S (identity (page_count S)) 0 (map syllable_of b) b there)
      (blocks_each (λ g. (w : ℕ) → 65 ≤ w → w ≤ 67 → Stays (1024 * g + w)) b (λ g h w low high. stays_block g w low high (has_left g (blocks_of b) (tables ++ opens) h)))
      (λ g w low h. own_rest g w (has_left g tables opens h) low)))
      (each_append Stays (own_places (last_block b)) (page_foot (map_along S b))
      (block_places Stays (last_block b) own_last)
      (page_places Stays (map_along S b) (λ g w h low. own_rest g w (has_right g tables opens h) low)))

  foot_stays : pin_of S (map syllable_of b) ≡ Some b → Each Stays (foot S b)
  unfolding foot
  foot_stays there = by (last_block b)
    where
      by : (o : Option ℕ) → Each Stays (but_lines o (standing_places S b))
      by None = all_stay there
      by (Some g) = each_without Stays (1024 * g + 42) (standing_places S b) (all_stay there)

  status_stays : same_status (last_block b) U T ≡ true
  status_stays = by (last_block b) (λ g e. own_last g 42 e (omega arith))
    where
      by : (o : Option ℕ) → ((g : ℕ) → o ≡ Some g → slice_index U (1024 * g + 42) ≡ slice_index T (1024 * g + 42)) → same_status o U T ≡ true
      by None f = refl
      by (Some g) f = eq-eqb (unlined (word_at U g 42)) (unlined (word_at T g 42)) (ap unlined (f g refl))

  pub kept_foot : pin_of S (map syllable_of b) ≡ Some b → keeps_foot (foot S b) b U T ≡ true
  kept_foot there = ap (λ (t : Bool). t && same_status (last_block b) U T) (same_all U T (foot S b) (foot_stays there)) ∙ status_stays

module _ (S : List ℕ) (a : List Item) (there : pin_of S (map syllable_of a) ≡ Some a) where
  framed_by : (T : List ℕ) (r : Regs) → running_path S r ≡ map syllable_of a → IsFramedBy S (running_path S r) T → IsFramed S (map_along S a) a T
  unfolding IsFramedBy
  framed_by T r e f =
      let same : f.0 ≡ a = same_Some f.0 a (sym f.1 ∙ ap (pin_of S) e ∙ there) in
      subst (λ (items : List Item). IsFramed S (map_along S items) items T) same f.2

-- what a step changes where it is told whose it is
step_framed : (S : List ℕ) (a : List Item) (st : State) (hart : ℕ) → pin_of S (map syllable_of a) ≡ Some a → st.storage ≡ S → running_of st hart ≡ map syllable_of a
    → IsFramed S (map_along S a) a (moved_of st hart).state.storage
step_framed S a st hart there is runs =
    subst (λ (R : List ℕ). IsFramed R (map_along R a) a (moved_of st hart).state.storage) is
    (at (slice_get st.harts hart) runs)
  where
    pinned : pin_of st.storage (map syllable_of a) ≡ Some a
    pinned = subst (λ (R : List ℕ). pin_of R (map syllable_of a) ≡ Some a) (sym is) there

    by : (r : Regs) → running_path st.storage r ≡ map syllable_of a → (X : Stepped) → host_step_of st.storage hart r ≡ X → IsFramed st.storage (map_along st.storage a) a (moved_by st hart X).state.storage
    by r e (Worked T q) step = framed_by st.storage a pinned T r e (host_framed st.storage T hart r q WorkedKind (sym step))
    by r e (Recalled l T q) step = framed_by st.storage a pinned T r e (host_framed st.storage T hart r q (Recall l) (sym step))
    by r e (Faulted l c p k T q) step = framed_by st.storage a pinned T r e (host_framed st.storage T hart r q (Fault l c p k) (sym step))
    by r e (Barred f) step = λ q ne. absurd (ne refl)

    at : (o : Option Regs) → running_at st.storage o ≡ map syllable_of a → IsFramed st.storage (map_along st.storage a) a (moved_at st hart o).state.storage
    at None e = λ q ne. absurd (ne refl)
    at (Some r) e = by r e (host_step_of st.storage hart r) refl

pub untouched : (S : List ℕ) (a b : List Item) → pin_of S (map syllable_of a) ≡ Some a → pin_of S (map syllable_of b) ≡ Some b → is_may S a b ≡ false → IsUntouched S a b
untouched S a b first second not_may =
    λ st hart is runs. kept_foot S S (moved_of st hart).state.storage a b (step_framed S a st hart first is runs) not_may second
