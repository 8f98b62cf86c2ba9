-- A run without rough moves, whose arrivals are all true, move by move.
use Rattle.std.proofs.Common.{◌≡◌, ◌≢◌, ℕ, suc, ◌+◌, ◌*◌, ◌<◌, ◌≤◌, ◌⊎◌, inl, inr, Bool, true, false, cond, ◌==◌, List, [], ◌∷◌, length, Option, Some, None, refl, ap, ◌∙◌, sym, subst, arith, slice_get, get_or}
use Rattle.std.proofs.lemmas.Bool.{eqb-true, false≢true}
use Rattle.std.proofs.lemmas.Bool.Decides.{eqb_tells}
use Rattle.std.proofs.lemmas.Option.{same_Some, slice_get_within}
use Rattle.std.specs.Option.{option_map}
use Rattle.std.specs.Prelude.{◌/◌}
use Rattle.hv_word.specs.Storage.{word_at, page_count}
use Rattle.hv_cpu.specs.Regs.{Regs}
use Rattle.hv_cpu.specs.Lines.{lined_of}
use Rattle.hv_limits.specs.Limits.{depth_limit}
use Rattle.hv_store.specs.declared.access.Slot.{Slot}
use Rattle.hv_store.specs.declared.access.Way.{Way}
use Rattle.hv_store.specs.declared.access.Way.TheVariants.{Open, Shut}
use Rattle.hv_store.specs.Access.{identity}
use Rattle.hv_map.specs.Item.{Item}
use Rattle.hv_map.specs.Compose.{reading, compose}
use Rattle.hv_map.specs.Chain.{along, map_along, map_of, pin_of}
use Rattle.hv_map.specs.Apart.{is_apart}
use Rattle.hv_map.specs.Seen.{words_of, seen}
use Rattle.hv_map.specs.Words.{IsChild, Chained, syllables}
use Rattle.hv_map.proofs.Handed.{reading_slot}
use Rattle.hv_map.proofs.Slots.{length-composed}
use Rattle.hv_map.proofs.Words.{machines_chained}
use Rattle.hv_nest.specs.Routing.{hart_along}
use Rattle.hv_nest.specs.State.{State}
use Rattle.hv_nest.specs.Move.{Move, StepOf, LinesOf, state_after, last_of}
use Rattle.hv_nest.specs.Watched.{is_counted, lines_of}
use Rattle.hv_nest.specs.Bare.{alone}
use Rattle.hv_nest.proofs.SimulationLaws.{simulation}
use Rattle.hv_whole.specs.Whole.{own, AreMasked, IsMasked}
use Rattle.hv_whole.specs.Linked.{Alone, Linked, bare_move, bare_run}
use Rattle.hv_whole.proofs.Apartness.{alone as stand_alone, reading_at}
use Rattle.hv_whole.proofs.Lengths.{move_long}
use Rattle.hv_whole.proofs.Links.{along_still, chained_still}
use Rattle.hv_whole.proofs.Moves.{last_append}
use Rattle.hv_whole.proofs.Starts.{start_linked}
use Rattle.hv_pager.specs.Paging.{Arrivals, first_of, arrivals_by, arrivals_at, reading_if, AreTrue, IsSmooth, RunsSmoothly, arrivals_of, keeps_if, keeps_words, stands_if}
use Rattle.hv_pager.proofs.Pages.{word_of_page}
use Rattle.hv_pager.proofs.Steps.{SteppedAfter, counted_step}
use Rattle.hv_pager.proofs.Unchanged.{Stays, stays}

-- two children on the same page of a machine are the same
same_child : (S : List ℕ) (F : List Slot) (x y : Item) → IsChild S F x → IsChild S F y → x.syllable ≡ y.syllable → x ≡ y
same_child S F x y c d e =
    let slots : c.slot ≡ d.slot = same_Some c.slot d.slot (sym c.there ∙ ap (slice_get F) e ∙ d.there) in
    let ways : Open x.block ≡ Open y.block = sym c.writes ∙ ap (λ (s : Slot). s.write) slots ∙ d.writes in
    let block : x.block ≡ y.block = same_open x.block y.block ways in
    let pages : x.pages ≡ y.pages = sym c.pages ∙ ap (λ (b : ℕ). word_at S b 65) block ∙ d.pages in
    let table : x.table ≡ y.table = sym c.table ∙ ap (λ (b : ℕ). word_at S b 66) block ∙ d.table in
    let version : x.version ≡ y.version = sym c.version ∙ ap (λ (b : ℕ). word_at S b 67) block ∙ d.version in
    λ i. record { syllable = e i; block = block i; pages = pages i; table = table i; version = version i }
  where
    same_open : (a b : ℕ) → Open a ≡ Open b → a ≡ b
    same_open a b e = cc

same_items : (S : List ℕ) (F : List Slot) (j : ℕ) (xs ys : List Item) → Chained S F j xs → Chained S F j ys → syllables xs ≡ syllables ys → xs ≡ ys
same_items S F j [] [] c d e = refl
same_items S F j [] (y ∷ ys) c d e = absurd (let n : 0 ≡ suc (length (syllables ys)) = ap length e in omega (arith, n))
same_items S F j (x ∷ xs) [] c d e = absurd (let n : suc (length (syllables xs)) ≡ 0 = ap length e in omega (arith, n))
same_items S F j (x ∷ xs) (y ∷ ys) c d e =
    let head : x.syllable ≡ y.syllable = ap (λ (l : List ℕ). get_or l 0 0) e in
    let tail : syllables xs ≡ syllables ys = ap rest e in
    let is : x ≡ y = same_child S F x y c.0 d.0 head in
    let more : Chained S (compose S F j x.pages x.table x.version) (j + 1) ys = subst (λ (z : Item). Chained S (compose S F j z.pages z.table z.version) (j + 1) ys) (sym is) d.1 in
    let tails : xs ≡ ys = same_items S (compose S F j x.pages x.table x.version) (j + 1) xs ys c.1 more tail in
    λ i. is i ∷ tails i
  where
    rest : List ℕ → List ℕ
    rest [] = []
    rest (a ∷ more) = more

-- the map has as many pages, whatever its words are
along_length : (S A : List ℕ) (F G : List Slot) (j : ℕ) (xs : List Item) → length F ≡ length G → length (along S F j xs) ≡ length (along A G j xs)
unfolding along
along_length S A F G j [] e = e
along_length S A F G j (x ∷ xs) e =
    along_length S A (compose S F j x.pages x.table x.version) (compose A G j x.pages x.table x.version) (j + 1) xs
    (length-composed S F j x.pages x.table x.version ∙ sym (length-composed A G j x.pages x.table x.version))

-- a way is open to a page, or isn't
opens_or : (o : Option Way) (g : ℕ) → (o ≡ Some (Open g)) ⊎ (o ≢ Some (Open g))
opens_or None g = inr (λ e. none e)
  where
    none : None ≡ Some (Open g) → ⊥
    none e = cc
opens_or (Some (Shut l c a p)) g = inr (λ e. shut (same_Some (Shut l c a p) (Open g) e))
  where
    shut : Shut l c a p ≡ Open g → ⊥
    shut e = cc
opens_or (Some (Open x)) g = elim (eqb_tells x g) [
  | inl e ↦ inl (ap (λ (n : ℕ). Some (Open n)) e.1)
  | inr e ↦ inr (λ f. e.1 (page (same_Some (Open x) (Open g) f)))
]
  where
    page : Open x ≡ Open g → x ≡ g
    page e = cc

-- a page's first arrival stays
first_stays : (S : List ℕ) (p : Arrivals) (o : Option Way) (ws : List ℕ) → p.first ≡ Some ws → (arrivals_by S p o).first ≡ Some ws
first_stays S p None ws e = e
first_stays S p (Some (Shut l c a b)) ws e = e
first_stays S p (Some (Open g)) ws e = ap (λ (o : Option (List ℕ)). first_of o (words_of S 1024 (Open g))) e

first_at : (S : List ℕ) (m : Option (List Slot)) (pages : ℕ → Arrivals) (i : ℕ) (ws : List ℕ) → (pages i).first ≡ Some ws → (arrivals_at S m pages i).first ≡ Some ws
first_at S None pages i ws e = e
first_at S (Some F) pages i ws e = first_stays S (pages i) (reading F i) ws e

pub first_of_all : (path : List ℕ) (moves : List Move) (st : State) (pages : ℕ → Arrivals) (i : ℕ) (ws : List ℕ) → (pages i).first ≡ Some ws → (arrivals_of path st moves pages i).first ≡ Some ws
unfolding arrivals_of
first_of_all path [] st pages i ws e = e
first_of_all path (move ∷ moves) st pages i ws e =
    let next : State = state_after st move in
    first_of_all path moves next (arrivals_at next.storage (map_of next.storage path) pages) i ws (first_at next.storage (map_of next.storage path) pages i ws e)

-- what has been seen of a page is what the bare machine has there; what will come, E, it has from the start on
pub record Shadow (E p : Arrivals) (T : List ℕ) (i : ℕ) : Type 0 where
  pub last : (ws : List ℕ) (w : ℕ) → p.last ≡ Some ws → w < 1024 → get_or ws w 0 ≡ word_at T i w
  pub fresh : (ws : List ℕ) (w : ℕ) → p.last ≡ None → E.first ≡ Some ws → w < 1024 → get_or ws w 0 ≡ word_at T i w
  pub paired : p.last ≡ None → p.first ≡ None

-- The watched machine in a state, and the bare one with the storage T and the registers c.
pub record Paged (h : ℕ) (path : List ℕ) (items : List Item) (E pages : ℕ → Arrivals) (st : State) (T : List ℕ) (c : Regs) : Type 0 where
  pub pin : pin_of st.storage path ≡ Some items
  pub apart : is_apart st.storage items ≡ true
  pub size : length T ≡ 1024 * length (map_along st.storage items)
  pub regs : own h items st ≡ c
  pub opens : (i g w : ℕ) → reading (map_along st.storage items) i ≡ Some (Open g) → w < 1024 → word_at st.storage g w ≡ word_at T i w
  pub shadow : (i : ℕ) → i < length (map_along st.storage items) → Shadow (E i) (pages i) T i

unfoldable pub PagedAfter : ℕ → List ℕ → List Item → (ℕ → Arrivals) → (ℕ → Arrivals) → State → State → Type 0
PagedAfter h path items E pages st bare = (T : List ℕ) × (c : Regs) × (bare ≡ alone T c) × Paged h path items E pages st T c

some_none : (ws : List ℕ) → Some ws ≡ None → ⊥
some_none ws e = cc

-- after a moment at which a page is open for reading, or isn't
shadow_after : (E p : Arrivals) (S U T : List ℕ) (i : ℕ) (o : Option Way) → Shadow E p T i
    → ((g w : ℕ) → o ≡ Some (Open g) → w < 1024 → word_at S g w ≡ word_at U i w)
    → (((g : ℕ) → o ≢ Some (Open g)) → (w : ℕ) → w < 1024 → word_at U i w ≡ word_at T i w)
    → Shadow E (arrivals_by S p o) U i
shadow_after E p S U T i (Some (Open g)) sh at off = record {
  last = λ ws w e small. ap (λ (l : List ℕ). get_or l w 0) (sym (same_Some (words_of S 1024 (Open g)) ws e)) ∙ word_of_page S g w small ∙ at g w refl small;
  fresh = λ ws w e f small. absurd (some_none (words_of S 1024 (Open g)) e);
  paired = λ e. absurd (some_none (words_of S 1024 (Open g)) e);
}
shadow_after E p S U T i None sh at off = record {
  last = λ ws w e small. sh.last ws w e small ∙ sym (off (λ g e. none g e) w small);
  fresh = λ ws w e f small. sh.fresh ws w e f small ∙ sym (off (λ g e. none g e) w small);
  paired = sh.paired;
}
  where
    none : (g : ℕ) → None ≡ Some (Open g) → ⊥
    none g e = cc
shadow_after E p S U T i (Some (Shut l c a b)) sh at off = record {
  last = λ ws w e small. sh.last ws w e small ∙ sym (off (λ g e. shut g (same_Some (Shut l c a b) (Open g) e)) w small);
  fresh = λ ws w e f small. sh.fresh ws w e f small ∙ sym (off (λ g e. shut g (same_Some (Shut l c a b) (Open g) e)) w small);
  paired = sh.paired;
}
  where
    shut : (g : ℕ) → Shut l c a b ≡ Open g → ⊥
    shut g e = cc

module _ (h : ℕ) (path : List ℕ) (items : List Item) (E : ℕ → Arrivals) (short : length path ≤ depth_limit) (at : syllables items ≡ path) (root : items ≡ [] → path ≡ []) (zeroth : hart_along items h ≡ 0) where
  stands : (S : List ℕ) → pin_of S path ≡ Some items → is_apart S items ≡ true → Alone S items (map_along S items)
  stands S pin apart = stand_alone S path items short pin apart

  -- the machines on the path are the same after a move that leaves them where they are
  record Still (S : List ℕ) : Type 0 where
    pin : pin_of S path ≡ Some items
    apart : is_apart S items ≡ true

  still_of : (S : List ℕ) (o : Option (List Item)) → pin_of S path ≡ o → stands_if S o ≡ true → Chained S (identity (page_count S)) 0 items → Still S
  unfolding pin_of
  still_of S None is e chained = absurd (false≢true e)
  still_of S (Some ys) is e chained =
      let m = machines_chained S (identity (page_count S)) 0 path ys is in
      let same : items ≡ ys = same_items S (identity (page_count S)) 0 items ys chained m.1 (at ∙ sym m.0) in
      record { pin = is ∙ ap Some (sym same); apart = subst (λ (zs : List Item). is_apart S zs ≡ true) (sym same) e }

  -- the map of the machine then
  map_is : (S : List ℕ) → pin_of S path ≡ Some items → map_of S path ≡ Some (map_along S items)
  map_is S e = ap (option_map (map_along S)) e

  size_is : (S A : List ℕ) → length S ≡ length A → length (map_along S items) ≡ length (map_along A items)
  unfolding map_along
  size_is S A e =
      let same : identity (page_count S) ≡ identity (page_count A) = ap (λ (n : ℕ). identity (n / 1024)) e in
      along_length S A (identity (page_count S)) (identity (page_count A)) 0 items (ap length same)

  -- the pages that were seen after a move
  pages_then : State → (ℕ → Arrivals) → ℕ → Arrivals
  pages_then next pages = arrivals_at next.storage (map_of next.storage path) pages

  then_at : (next : State) (pages : ℕ → Arrivals) (i : ℕ) → pin_of next.storage path ≡ Some items
      → arrivals_by next.storage (pages i) (reading (map_along next.storage items) i) ≡ arrivals_at next.storage (map_of next.storage path) pages i
  then_at next pages i e = ap (λ (m : Option (List Slot)). arrivals_at next.storage m pages i) (sym (map_is next.storage e))

  -- a move that counts
  counted_move : (st : State) (hart : ℕ) (pages : ℕ → Arrivals) (T : List ℕ) (c : Regs) → Paged h path items E pages st T c → h < length st.harts
      → IsSmooth h path st (StepOf hart) → is_counted h path st (StepOf hart) ≡ true
      → PagedAfter h path items E (arrivals_at (state_after st (StepOf hart)).storage (map_of (state_after st (StepOf hart)).storage path) pages) (state_after st (StepOf hart)) (last_of (alone T c) (StepOf 0 ∷ []))
  unfolding PagedAfter last_of SteppedAfter map_along
  counted_move st hart pages T c paged there smooth counted = (
    s.0,
    s.1,
    s.2,
    record {
      pin = still.pin;
      apart = still.apart;
      size = s.3.sees.size ∙ ap (λ (G : List Slot). 1024 * length G) (sym map_same);
      regs = s.3.regs;
      opens = λ i g w e small. now i g w (ap (λ (G : List Slot). reading G i) (sym map_same) ∙ e) small;
      shadow = λ i inside. subst (λ (p : Arrivals). Shadow (E i) p s.0 i) (then_at next pages i still.pin)
          (shadow_after (E i) (pages i) next.storage s.0 T i (reading (map_along next.storage items) i)
          (paged.shadow i (subst (λ (G : List Slot). i < length G) map_same inside))
          (λ g w e small. now i g w (ap (λ (G : List Slot). reading G i) (sym map_same) ∙ e) small)
          (λ shut w small. s.4 i w (λ g e. shut g (ap (λ (G : List Slot). reading G i) map_same ∙ e)) small));
    },
  )
    where
      A : List ℕ
      A = st.storage

      F : List Slot
      F = map_along st.storage items

      next : State
      next = state_after st (StepOf hart)

      stand : Alone st.storage items (map_along st.storage items)
      stand = stands st.storage paged.pin paged.apart

      first : Linked h items st.storage (map_along st.storage items) st (seen st.storage (map_along st.storage items)) (own h items st)
      first = start_linked h items st stand

      link : Linked h items st.storage (map_along st.storage items) st T c
      link = record {
        chain = first.chain;
        len = first.len;
        sees = record {
          apart = first.sees.apart;
          inside = first.sees.inside;
          same = first.sees.same;
          below = first.sees.below;
          size = paged.size;
          agree = λ y x w s is e small. paged.opens y x w (reading_at (map_along st.storage items) y x s is e) small;
        };
        regs = paged.regs;
      }

      s : (U : List ℕ) × (d : Regs) × (state_after (alone T c) (StepOf 0) ≡ alone U d) × Linked h items st.storage (map_along st.storage items) (state_after st (StepOf hart)) U d × ((y w : ℕ) → ((x : ℕ) → reading (map_along st.storage items) y ≢ Some (Open x)) → w < 1024 → word_at U y w ≡ word_at T y w)
      s = counted_step simulation st.storage items (map_along st.storage items) stand h st T c link there zeroth hart (subst (λ (q : List ℕ). is_counted h q st (StepOf hart) ≡ true) (sym at) counted)

      chained : Chained next.storage (identity (page_count next.storage)) 0 items
      chained = chained_still st.storage items (map_along st.storage items) stand next.storage s.3.len s.3.chain

      still : Still next.storage
      still = still_of next.storage (pin_of next.storage path) refl smooth.stands chained

      map_same : map_along next.storage items ≡ map_along st.storage items
      map_same = along_still st.storage items (map_along st.storage items) stand next.storage s.3.len s.3.chain

      now : (i g w : ℕ) → reading (map_along st.storage items) i ≡ Some (Open g) → w < 1024 → word_at next.storage g w ≡ word_at s.0 i w
      now i g w e small =
          let r = reading_slot (map_along st.storage items) i (Open g) e in
          s.3.sees.agree i g w r.0 r.1 r.2 small

  -- a move that doesn't count
  beside_move : (st : State) (move : Move) (pages : ℕ → Arrivals) (T : List ℕ) (c d : Regs) → Paged h path items E pages st T c
      → Stays h path items root st (state_after st move) → stands_if (state_after st move).storage (pin_of (state_after st move).storage path) ≡ true
      → AreTrue (state_after st move).storage (map_of st.storage path) (map_of (state_after st move).storage path) pages
      → ((i : ℕ) (ws : List ℕ) → (arrivals_at (state_after st move).storage (map_of (state_after st move).storage path) pages i).first ≡ Some ws → (E i).first ≡ Some ws)
      → own h items (state_after st move) ≡ d
      → Paged h path items E (arrivals_at (state_after st move).storage (map_of (state_after st move).storage path) pages) (state_after st move) T d
  beside_move st move pages T c d paged keeps standing trues comes regs = record {
    pin = still.pin;
    apart = still.apart;
    size = paged.size ∙ ap (λ (n : ℕ). 1024 * n) (sym sizes);
    regs = regs;
    opens = now;
    shadow = λ i inside. subst (λ (p : Arrivals). Shadow (E i) p T i) (then_at next pages i still.pin)
        (shadow_after (E i) (pages i) next.storage T T i (reading (map_along next.storage items) i)
        (paged.shadow i (subst (λ (n : ℕ). i < n) sizes inside))
        (λ g w e small. now i g w e small)
        (λ shut w small. refl));
  }
    where
      next : State
      next = state_after st move

      sizes : length (map_along next.storage items) ≡ length (map_along st.storage items)
      sizes = size_is next.storage st.storage keeps.len

      same_identity : identity (page_count st.storage) ≡ identity (page_count next.storage)
      same_identity = ap (λ (n : ℕ). identity (n / 1024)) (sym keeps.len)

      still : Still next.storage
      still = still_of next.storage (pin_of next.storage path) refl standing (subst (λ (I : List Slot). Chained next.storage I 0 items) same_identity keeps.chained)

      -- a page that was open stays; another arrives
      arrives : (i g w : ℕ) (o : Option (List ℕ)) → reading (map_along next.storage items) i ≡ Some (Open g) → reading (map_along st.storage items) i ≢ Some (Open g) → (pages i).last ≡ o → w < 1024 → Shadow (E i) (pages i) T i
          → word_at next.storage g w ≡ word_at T i w
      arrives i g w (Some ws) e shut was small sh =
          let true_words : ws ≡ words_of next.storage 1024 (Open g) =
          trues i g ws (ap (λ (m : Option (List Slot)). reading_if m i) (map_is next.storage still.pin) ∙ e)
          (λ f. shut (ap (λ (m : Option (List Slot)). reading_if m i) (sym (map_is st.storage paged.pin)) ∙ f)) was
          in
          sym (word_of_page next.storage g w small) ∙ ap (λ (l : List ℕ). get_or l w 0) (sym true_words) ∙ sh.last ws w was small
      arrives i g w None e shut was small sh =
          let words : List ℕ = words_of next.storage 1024 (Open g) in
          let first : (arrivals_by next.storage (pages i) (Some (Open g))).first ≡ Some words = ap (λ (o : Option (List ℕ)). first_of o words) (sh.paired was) in
          let told : (arrivals_at next.storage (map_of next.storage path) pages i).first ≡ Some words =
          ap (λ (p : Arrivals). p.first) (sym (then_at next pages i still.pin))
          ∙ ap (λ (o : Option Way). (arrivals_by next.storage (pages i) o).first) e
          ∙ first
          in
          sym (word_of_page next.storage g w small) ∙ sh.fresh words w was (comes i words told) small

      now : (i g w : ℕ) → reading (map_along next.storage items) i ≡ Some (Open g) → w < 1024 → word_at next.storage g w ≡ word_at T i w
      now i g w e small = by (opens_or (reading (map_along st.storage items) i) g)
        where
          within : i < length (map_along st.storage items)
          within = subst (λ (n : ℕ). i < n) sizes (let r = reading_slot (map_along next.storage items) i (Open g) e in slice_get_within (map_along next.storage items) i r.0 r.1)

          by : (reading (map_along st.storage items) i ≡ Some (Open g)) ⊎ (reading (map_along st.storage items) i ≢ Some (Open g)) → word_at next.storage g w ≡ word_at T i w
          by (inl was) =
              let r = reading_slot (map_along st.storage items) i (Open g) was in
              sym (keeps.pages i g w r.0 r.1 r.2 small) ∙ paged.opens i g w was small
          by (inr shut) = arrives i g w (pages i).last e shut refl small (paged.shadow i within)

  -- what a smooth move keeps, where it doesn't count
  kept_of : (st : State) (move : Move) → pin_of st.storage path ≡ Some items → IsSmooth h path st move → is_counted h path st move ≡ false → keeps_words st.storage items (state_after st move).storage ≡ true
  kept_of st move pin smooth free = subst (λ (o : Option (List Item)). keeps_if st.storage o (state_after st move).storage ≡ true) pin (smooth.keeps free)

  one_move : (st : State) (move : Move) (pages : ℕ → Arrivals) (T : List ℕ) (c : Regs) → Paged h path items E pages st T c → h < length st.harts
      → IsMasked move → IsSmooth h path st move
      → AreTrue (state_after st move).storage (map_of st.storage path) (map_of (state_after st move).storage path) pages
      → ((i : ℕ) (ws : List ℕ) → (arrivals_at (state_after st move).storage (map_of (state_after st move).storage path) pages i).first ≡ Some ws → (E i).first ≡ Some ws)
      → PagedAfter h path items E (arrivals_at (state_after st move).storage (map_of (state_after st move).storage path) pages) (state_after st move) (last_of (alone T c) (bare_move h path items st move))
  unfolding PagedAfter last_of
  one_move st move pages T c paged there masked smooth trues comes = by (is_counted h path st move) refl
    where
      next : State
      next = state_after st move

      seen_then : ℕ → Arrivals
      seen_then = arrivals_at (state_after st move).storage (map_of (state_after st move).storage path) pages

      step : (m : Move) → move ≡ m → is_counted h path st m ≡ true → IsSmooth h path st m
          → PagedAfter h path items E (arrivals_at (state_after st m).storage (map_of (state_after st m).storage path) pages) (state_after st m) (last_of (alone T c) (StepOf 0 ∷ []))
      step (StepOf hart) is counted soft = counted_move st hart pages T c paged there soft counted
      step (LinesOf hart mask) is counted soft = absurd (false≢true counted)

      lined : (b : Bool) → (lines_of h items st == lines_of h items (state_after st move)) ≡ b → Stays h path items root st (state_after st move)
          → PagedAfter h path items E (arrivals_at (state_after st move).storage (map_of (state_after st move).storage path) pages) (state_after st move) (last_of (alone T c) (cond b [] (LinesOf 0 (lines_of h items (state_after st move)) ∷ [])))
      lined true e keeps = (T, c, refl, beside_move st move pages T c c paged keeps smooth.stands trues comes (keeps.same (eqb-true (lines_of h items st) (lines_of h items (state_after st move)) e) ∙ paged.regs))
      lined false e keeps =
          let bits : ℕ = lines_of h items (state_after st move) in
          (T, lined_of c bits, refl, beside_move st move pages T c (lined_of c bits) paged keeps smooth.stands trues comes (keeps.regs ∙ ap (λ (r : Regs). lined_of r bits) paged.regs))

      by : (b : Bool) → is_counted h path st move ≡ b
          → PagedAfter h path items E (arrivals_at (state_after st move).storage (map_of (state_after st move).storage path) pages) (state_after st move) (last_of (alone T c) (cond b (StepOf 0 ∷ []) (cond (lines_of h items st == lines_of h items (state_after st move)) [] (LinesOf 0 (lines_of h items (state_after st move)) ∷ []))))
      by true e = step move refl e smooth
      by false e = lined (lines_of h items st == lines_of h items (state_after st move)) refl (stays h path items root st move (stands st.storage paged.pin paged.apart) masked e (kept_of st move paged.pin smooth e))

  -- all of them
  pub all_moves : (moves : List Move) (st : State) (pages : ℕ → Arrivals) (T : List ℕ) (c : Regs) → Paged h path items E pages st T c → h < length st.harts
      → AreMasked moves → RunsSmoothly h path st moves pages
      → ((i : ℕ) (ws : List ℕ) → (arrivals_of path st moves pages i).first ≡ Some ws → (E i).first ≡ Some ws)
      → PagedAfter h path items E (arrivals_of path st moves pages) (last_of st moves) (last_of (alone T c) (bare_run h path items st moves))
  unfolding last_of PagedAfter bare_run arrivals_of
  all_moves [] st pages T c paged there masked smooth comes = (T, c, refl, paged)
  all_moves (move ∷ moves) st pages T c paged there masked smooth comes =
      let next : State = state_after st move in
      let later : ℕ → Arrivals = arrivals_at next.storage (map_of next.storage path) pages in
      let m = one_move st move pages T c paged there masked.0 smooth.0 smooth.1 (λ i ws e. comes i ws (first_of_all path moves next later i ws e)) in
      let still : h < length next.harts = omega (arith, (move_long st move).harts) in
      let rest = all_moves moves next later m.0 m.1 m.3 still masked.1 smooth.2 comes in (
        rest.0,
        rest.1,
        last_append (alone T c) (bare_move h path items st move) (bare_run h path items next moves)
            ∙ ap (λ (b : State). last_of b (bare_run h path items next moves)) m.2
            ∙ rest.2,
        rest.3,
      )
