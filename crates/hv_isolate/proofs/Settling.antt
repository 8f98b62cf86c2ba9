-- In a settled play the maps of the machines that run stay, and so a step changes what the machine might at the start.
use Rattle.std.proofs.Common.{◌≡◌, ℕ, zero, suc, ◌+◌, ◌*◌, ◌⊎◌, inl, inr, Bool, true, false, ◌&&◌, List, [], ◌∷◌, length, map, Option, Some, None, refl, ap, ap₂, ◌∙◌, sym, subst, arith, slice_get}
use Rattle.std.specs.Prelude.{slice_index, ◌/◌}
use Rattle.std.proofs.lemmas.Bool.{eq-eqb, false≢true}
use Rattle.std.proofs.lemmas.Option.{same_Some}
use Rattle.hv_word.specs.Storage.{page_count, word_at}
use Rattle.hv_cpu.specs.Regs.{Regs}
use Rattle.hv_cpu.specs.Lines.{unlined}
use Rattle.hv_store.specs.declared.access.Slot.{Slot}
use Rattle.hv_store.specs.declared.access.Way.{Way}
use Rattle.hv_store.specs.declared.access.Way.TheVariants.{Open, Shut}
use Rattle.hv_store.specs.Access.{identity}
use Rattle.hv_map.specs.Compose.{compose}
use Rattle.hv_map.specs.Item.{Item}
use Rattle.hv_map.specs.Chain.{along, map_along, pin_of, running_path}
use Rattle.hv_map.specs.Links.{last_block, syllable_of}
use Rattle.hv_map.specs.Words.{Chained, EachChain, IsChild, syllables}
use Rattle.hv_map.proofs.Words.{along_agrees, chained_agrees, each_chain, machines_chained}
use Rattle.hv_nest.specs.declared.outcome.StepKind.TheVariants.{Worked as WorkedKind, Recall, Fault}
use Rattle.hv_nest.specs.State.{State}
use Rattle.hv_nest.specs.Step.{Stepped, Worked, Recalled, Faulted, Barred, host_step_of}
use Rattle.hv_nest.specs.Move.{Move, StepOf, LinesOf, last_of, lined_at, lined_state, moved_at, moved_by, moved_of, running_at, running_of, state_after}
use Rattle.hv_nest.specs.Frame.{IsFramed, IsFramedBy}
use Rattle.hv_nest.specs.Watched.{are_same, foot, keeps_foot, same_status}
use Rattle.hv_nest.proofs.Frames.{host_framed}
use Rattle.hv_whole.proofs.Foots.{chain_has, each_both}
use Rattle.hv_whole.proofs.Lengths.{move_long}
use Rattle.hv_whole.proofs.Members.{Has, same_places}
use Rattle.hv_run.specs.Run.{state_at}
use Rattle.hv_isolate.specs.May.{is_may}
use Rattle.hv_isolate.specs.Settled.{IsListed, IsSettled, TouchersLaw, table_words}
use Rattle.hv_isolate.proofs.Staying.{kept_foot}

-- the state at the next moment
next_suc : (start : State) (moves : List Move) (k : ℕ) (move : Move) → slice_get moves k ≡ Some move → state_at start moves (suc k) ≡ state_after (state_at start moves k) move
unfolding last_of
next_suc start [] k move e = absurd (let f : None ≡ Some move = e in cc)
next_suc start (m ∷ moves) zero move e = ap (state_after start) (same_Some m move e)
next_suc start (m ∷ moves) (suc k) move e = next_suc (state_after start m) moves k move e

one_more : (k : ℕ) → k + 1 ≡ suc k
one_more k = omega arith

pub next_state : (start : State) (moves : List Move) (k : ℕ) (move : Move) → slice_get moves k ≡ Some move → state_at start moves (k + 1) ≡ state_after (state_at start moves k) move
next_state start moves k move e = ap (state_at start moves) (one_more k) ∙ next_suc start moves k move e

before : (moves : List Move) (k : ℕ) (move : Move) → slice_get moves (suc k) ≡ Some move → (m : Move) × (slice_get moves k ≡ Some m)
before [] k move e = absurd (let f : None ≡ Some move = e in cc)
before (m ∷ moves) zero move e = (m, refl)
before (m ∷ moves) (suc k) move e = before moves k move e

-- a change of lines changes no word of the storage
lines_stay : (st : State) (hart mask : ℕ) → (lined_state st hart mask).storage ≡ st.storage
lines_stay st hart mask = by (slice_get st.harts hart)
  where
    by : (o : Option Regs) → (lined_at st hart mask o).storage ≡ st.storage
    by None = refl
    by (Some r) = refl

-- a step changes nothing, or what a frame says
step_frame : (st : State) (hart : ℕ) → (st.storage ≡ (moved_of st hart).state.storage) ⊎ IsFramedBy st.storage (running_of st hart) (moved_of st hart).state.storage
step_frame st hart = at (slice_get st.harts hart)
  where
    by : (r : Regs) (X : Stepped) → host_step_of st.storage hart r ≡ X → (st.storage ≡ (moved_by st hart X).state.storage) ⊎ IsFramedBy st.storage (running_path st.storage r) (moved_by st hart X).state.storage
    by r (Worked T q) e = inr (host_framed st.storage T hart r q WorkedKind (sym e))
    by r (Recalled l T q) e = inr (host_framed st.storage T hart r q (Recall l) (sym e))
    by r (Faulted l c p k T q) e = inr (host_framed st.storage T hart r q (Fault l c p k) (sym e))
    by r (Barred f) e = inl refl

    at : (o : Option Regs) → (st.storage ≡ (moved_at st hart o).state.storage) ⊎ IsFramedBy st.storage (running_at st.storage o) (moved_at st hart o).state.storage
    at None = inl refl
    at (Some r) = by r (host_step_of st.storage hart r) refl

-- the child on a page is one
same_child : (S : List ℕ) (F : List Slot) (x y : Item) → IsChild S F x → IsChild S F y → x.syllable ≡ y.syllable → x ≡ y
same_child S F x y a b e =
    let slot : a.slot ≡ b.slot = same_Some a.slot b.slot (sym a.there ∙ ap (slice_get F) e ∙ b.there) in
    let block : x.block ≡ y.block = opened x.block y.block (sym a.writes ∙ ap (λ (s : Slot). s.write) slot ∙ b.writes) in
    λ i. record {
      syllable = e i;
      block = block i;
      pages = (sym a.pages ∙ ap (λ (g : ℕ). word_at S g 65) block ∙ b.pages) i;
      table = (sym a.table ∙ ap (λ (g : ℕ). word_at S g 66) block ∙ b.table) i;
      version = (sym a.version ∙ ap (λ (g : ℕ). word_at S g 67) block ∙ b.version) i;
    }
  where
    page : ℕ → Way → ℕ
    page n (Open g) = g
    page n (Shut l c p w) = n

    opened : (g h : ℕ) → Open g ≡ Open h → g ≡ h
    opened g h f = ap (page g) f

abbrev head_of : ℕ → List ℕ → ℕ
head_of n [] = n
head_of n (s ∷ path) = s

abbrev tail_of : List ℕ → List ℕ
tail_of [] = []
tail_of (s ∷ path) = path

-- the machines on a path are those
same_chain : (S : List ℕ) (F : List Slot) (j : ℕ) (xs ys : List Item) → Chained S F j xs → Chained S F j ys → syllables xs ≡ syllables ys → xs ≡ ys
same_chain S F j [] [] a b e = refl
same_chain S F j [] (y ∷ ys) a b e = absurd (cc)
same_chain S F j (x ∷ xs) [] a b e = absurd (cc)
same_chain S F j (x ∷ xs) (y ∷ ys) a b e =
    let first : x.syllable ≡ y.syllable = ap (head_of x.syllable) e in
    let rest : syllables xs ≡ syllables ys = ap tail_of e in
    let same : x ≡ y = same_child S F x y a.0 b.0 first in
    let more : Chained S (compose S F j x.pages x.table x.version) (j + 1) ys =
    subst (λ (z : Item). Chained S (compose S F j z.pages z.table z.version) (j + 1) ys) (sym same) b.1 in
    ap₂ (λ (z : Item) (zs : List Item). z ∷ zs) same (same_chain S (compose S F j x.pages x.table x.version) (j + 1) xs ys a.1 more rest)

same_all : (ps S : List ℕ) → are_same ps S S ≡ true
unfolding are_same
same_all [] S = refl
same_all (q ∷ ps) S = ap (λ (t : Bool). t && are_same ps S S) (eq-eqb (slice_index S q) (slice_index S q) refl) ∙ same_all ps S

same_foot : (ft : List ℕ) (items : List Item) (S : List ℕ) → keeps_foot ft items S S ≡ true
same_foot ft items S = ap (λ (t : Bool). t && same_status (last_block items) S S) (same_all ft S) ∙ by (last_block items)
  where
    by : (o : Option ℕ) → same_status o S S ≡ true
    by None = refl
    by (Some g) = eq-eqb (unlined (word_at S g 42)) (unlined (word_at S g 42)) refl

module _ (start : State) (moves : List Move) (paths : List (List ℕ)) (settled : IsSettled start moves paths) where
  abbrev A : List ℕ
  A = start.storage

  abbrev At : ℕ → List ℕ
  At k = (state_at start moves k).storage

  -- the words that the maps are read from are as they were
  record Still (items : List Item) (S : List ℕ) : Type 0 where
    long : page_count S ≡ page_count A
    same : EachChain (λ g w. word_at A g w ≡ word_at S g w) A (identity (page_count A)) 0 items

  abbrev Words : List ℕ → List Item → List ℕ → Type 0
  Words S items T = EachChain (λ g w. word_at S g w ≡ word_at T g w) A (identity (page_count A)) 0 items

  all_words : (S T : List ℕ) (items : List Item) → are_same (table_words A items) S T ≡ true → Words S items T
  all_words S T items e =
      each_chain (λ g w. Has (1024 * g + w) (table_words A items)) (λ g w. word_at S g w ≡ word_at T g w) (λ g w h. same_places (table_words A items) S T (1024 * g + w) e h)
      A (identity (page_count A)) 0 items (chain_has A (identity (page_count A)) 0 items)

  further : (S T : List ℕ) (items : List Item) → Words A items S → Words S items T → Words A items T
  further S T items first more =
      each_both (λ g w. word_at A g w ≡ word_at S g w) (λ g w. word_at S g w ≡ word_at T g w) (λ g w. word_at A g w ≡ word_at T g w) (λ g w p q. p ∙ q)
      A (identity (page_count A)) 0 items first more

  moved : (path : List ℕ) (items : List Item) → IsListed paths path → pin_of A path ≡ Some items → (k : ℕ) (m : Move) → slice_get moves k ≡ Some m → are_same (table_words A items) (At k) (At (k + 1)) ≡ true
  moved path items listed there k (StepOf hart) e = settled.tables k hart path items e listed there
  moved path items listed there k (LinesOf hart mask) e =
      subst (λ (T : List ℕ). are_same (table_words A items) (At k) T ≡ true)
      (sym (ap (λ (st : State). st.storage) (next_state start moves k (LinesOf hart mask) e) ∙ lines_stay (state_at start moves k) hart mask))
      (same_all (table_words A items) (At k))

  words_still : (path : List ℕ) (items : List Item) → IsListed paths path → pin_of A path ≡ Some items → (k : ℕ) (move : Move) → slice_get moves k ≡ Some move → Words A items (At k)
  unfolding last_of
  words_still path items listed there zero move e = all_words A A items (same_all (table_words A items) A)
  words_still path items listed there (suc k) move e =
      let m = before moves k move e in
      further (At k) (At (suc k)) items (words_still path items listed there k m.0 m.1) (subst (λ (n : ℕ). Words (At k) items (At n)) (one_more k) (all_words (At k) (At (k + 1)) items (moved path items listed there k m.0 m.1)))

  size_still : (k : ℕ) (move : Move) → slice_get moves k ≡ Some move → length (At k) ≡ length A
  unfolding last_of
  size_still zero move e = refl
  size_still (suc k) move e =
      let m = before moves k move e in
      ap (λ (st : State). length st.storage) (next_suc start moves k m.0 m.1) ∙ (move_long (state_at start moves k) m.0).storage ∙ size_still k m.0 m.1

  -- the frame of a step at moment k, with the machines of the start
  frame_still : (k hart : ℕ) (runners : List Item) → slice_get moves k ≡ Some (StepOf hart) → pin_of A (running_of (state_at start moves k) hart) ≡ Some runners
      → IsFramedBy (At k) (running_of (state_at start moves k) hart) (moved_of (state_at start moves k) hart).state.storage
      → IsFramed (At k) (map_along A runners) runners (moved_of (state_at start moves k) hart).state.storage
  unfolding IsFramedBy pin_of map_along
  frame_still k hart runners e there f =
      let path : List ℕ = running_of (state_at start moves k) hart in
      let words : Words A runners (At k) = words_still path runners (settled.running k hart e) there k (StepOf hart) e in
      let size : page_count A ≡ page_count (At k) = ap (λ (n : ℕ). n / 1024) (sym (size_still k (StepOf hart) e)) in
      let old = machines_chained A (identity (page_count A)) 0 path runners there in
      let new = machines_chained (At k) (identity (page_count (At k))) 0 path f.0 f.1 in
      let here : Chained (At k) (identity (page_count (At k))) 0 runners =
      subst (λ (n : ℕ). Chained (At k) (identity n) 0 runners) size (chained_agrees A (At k) (identity (page_count A)) 0 runners words old.1) in
      let same : f.0 ≡ runners = same_chain (At k) (identity (page_count (At k))) 0 f.0 runners new.1 here (new.0 ∙ sym old.0) in
      let maps : along (At k) (identity (page_count (At k))) 0 runners ≡ along A (identity (page_count A)) 0 runners =
      ap (λ (n : ℕ). along (At k) (identity n) 0 runners) (sym size) ∙ sym (along_agrees A (At k) (identity (page_count A)) 0 runners words) in
      subst (λ (F : List Slot). IsFramed (At k) F runners (moved_of (state_at start moves k) hart).state.storage) maps
      (subst (λ (items : List Item). IsFramed (At k) (along (At k) (identity (page_count (At k))) 0 items) items (moved_of (state_at start moves k) hart).state.storage) same f.2)

syllables_are : (S path : List ℕ) (items : List Item) → pin_of S path ≡ Some items → pin_of S (map syllable_of items) ≡ Some items
unfolding pin_of
syllables_are S path items e = ap (pin_of S) (machines_chained S (identity (page_count S)) 0 path items e).0 ∙ e

pub touchers : TouchersLaw
touchers start moves paths path items k (LinesOf hart mask) settled there e changed =
    let same : (state_at start moves (k + 1)).storage ≡ (state_at start moves k).storage =
    ap (λ (st : State). st.storage) (next_state start moves k (LinesOf hart mask) e) ∙ lines_stay (state_at start moves k) hart mask in
    absurd
    (false≢true
    (sym changed
    ∙ ap (keeps_foot (foot start.storage items) items (state_at start moves k).storage) same
    ∙ same_foot (foot start.storage items) items (state_at start moves k).storage))
touchers start moves paths path items k (StepOf hart) settled there e changed =
    let pinned = settled.pinned k hart e in record {
      hart = hart;
      step = refl;
      runners = pinned.0;
      there = pinned.1;
      may = by (is_may start.storage pinned.0 items) refl;
    }
  where
    runners : List Item
    runners = (settled.pinned k hart e).0

    now : State
    now = state_at start moves k

    kept : keeps_foot (foot start.storage items) items (state_at start moves k).storage (moved_of (state_at start moves k) hart).state.storage ≡ true → ⊥
    kept f =
        false≢true
        (sym changed
        ∙ ap (λ (st : State). keeps_foot (foot start.storage items) items (state_at start moves k).storage st.storage) (next_state start moves k (StepOf hart) e)
        ∙ f)

    by : (t : Bool) → is_may start.storage (settled.pinned k hart e).0 items ≡ t → is_may start.storage (settled.pinned k hart e).0 items ≡ true
    by true f = f
    by false f = elim (step_frame (state_at start moves k) hart) [
      | inl same ↦
          absurd (kept (ap (keeps_foot (foot start.storage items) items (state_at start moves k).storage) (sym same) ∙ same_foot (foot start.storage items) items (state_at start moves k).storage))
      | inr frame ↦
          absurd
          (kept
          (kept_foot start.storage (state_at start moves k).storage (moved_of (state_at start moves k) hart).state.storage (settled.pinned k hart e).0 items
          (frame_still start moves paths settled k hart (settled.pinned k hart e).0 e (settled.pinned k hart e).1 frame) f (syllables_are start.storage path items there)))
    ]
