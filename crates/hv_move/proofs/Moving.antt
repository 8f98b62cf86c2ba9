-- A machine that was watched over a run is, where it is placed and watched over another, as the bare machine that made the
-- steps of both.
use Rattle.std.proofs.Common.{◌≡◌, ℕ, ◌+◌, ◌*◌, ◌/◌, ◌%◌, ◌<◌, nat_eq, Bool, true, false, cond, List, [], ◌∷◌, ◌++◌, length, get_or, slice_get, Option, Some, None, refl, ap, ◌∙◌, sym, subst, arith}
use Rattle.std.specs.Option.{option_map}
use Rattle.std.proofs.lemmas.List.{ext_get_or}
use Rattle.std.proofs.lemmas.Option.{same_Some}
use Rattle.hv_word.specs.Storage.{page_count, word_at}
use Rattle.hv_cpu.specs.Regs.{Regs}
use Rattle.hv_store.specs.declared.access.Slot.{Slot}
use Rattle.hv_store.specs.declared.access.Way.{Way}
use Rattle.hv_store.specs.declared.access.Way.TheVariants.{Open, Shut}
use Rattle.hv_store.specs.Access.{identity}
use Rattle.hv_map.specs.Item.{Item}
use Rattle.hv_map.specs.Compose.{compose}
use Rattle.hv_map.specs.Chain.{along, map_along, pin_of}
use Rattle.hv_map.specs.Carried.{Agree}
use Rattle.hv_map.specs.Seen.{seen}
use Rattle.hv_map.specs.Words.{Chained, EachChain, IsChild, syllables}
use Rattle.hv_map.proofs.Views.{length-seen, word_at-seen}
use Rattle.hv_map.proofs.Words.{along_agrees, chained_agrees, machines_chained}
use Rattle.hv_nest.specs.State.{State}
use Rattle.hv_nest.specs.Move.{Move, last_of, state_after}
use Rattle.hv_nest.specs.Watched.{LineChange, Tally, no_tally, is_counted, lines_of, beside, tally_after, tally_of, foot}
use Rattle.hv_nest.specs.Bare.{alone as runs_alone, bare_moves, bare_of}
use Rattle.hv_nest.specs.Routing.{hart_along}
use Rattle.hv_whole.specs.Whole.{own, Alike}
use Rattle.hv_whole.specs.Linked.{Alone, RunKeeps, bare_run}
use Rattle.hv_whole.proofs.Apartness.{alone}
use Rattle.hv_whole.proofs.Counted.{LinkedAfter}
use Rattle.hv_whole.proofs.Moves.{runs_alike}
use Rattle.hv_whole.proofs.Starts.{start_linked}
use Rattle.hv_whole.proofs.Tallies.{told_moves, run_keeps}
use Rattle.hv_whole.proofs.WholeRuns.{on_path, root_path, whole_runs}
use Rattle.hv_capsule.specs.Parked.{Parked}
use Rattle.hv_move.specs.Saved.{can_read, first_absent, opens}
use Rattle.hv_move.specs.Laws.{later, Rises, IsWatchedRun, IsMachineIn, MovedRunLaw}
use Rattle.hv_move.proofs.Continuing.{continued}
use Rattle.hv_move.proofs.Firsts.{all_read}

-- the counts of the changes that are told rise to the count
rises_on : (n : ℕ) (ls : List LineChange) (m : ℕ) → Rises n ls m → Rises n ls (m + 1)
rises_on n [] m r = omega arith
rises_on n (l ∷ ls) m r = (r.0, rises_on l.count ls m r.1)

rises_more : (n : ℕ) (ls : List LineChange) (l : LineChange) → Rises n ls l.count → Rises n (ls ++ l ∷ []) l.count
rises_more n [] l r = (r, omega arith)
rises_more n (k ∷ ls) l r = (r.0, rises_more k.count ls l r.1)

one_told : (same : Bool) (t : Tally) (bits : ℕ) → Rises 0 t.changes t.count → Rises 0 (cond same t.changes (t.changes ++ record { count = t.count; bits = bits } ∷ [])) t.count
one_told true t bits r = r
one_told false t bits r = rises_more 0 t.changes record { count = t.count; bits = bits } r

rises_after : (h : ℕ) (p : List ℕ) (items : List Item) (ft : List ℕ) (st : State) (move : Move) (t : Tally) → Rises 0 t.changes t.count → Rises 0 (tally_after h p items ft st move t).changes (tally_after h p items ft st move t).count
rises_after h p items ft st move t r = by (is_counted h p st move)
  where
    by : (b : Bool) → let u : Tally = cond b (record t { count = t.count + 1 }) (beside h items ft st (state_after st move) t) in Rises 0 u.changes u.count
    by true = rises_on 0 t.changes t.count r
    by false = one_told (nat_eq (lines_of h items st) (lines_of h items (state_after st move))) t (lines_of h items (state_after st move)) r

rises_all : (h : ℕ) (p : List ℕ) (items : List Item) (ft : List ℕ) (st : State) (moves : List Move) (t : Tally) → Rises 0 t.changes t.count → Rises 0 (tally_of h p items ft st moves t).changes (tally_of h p items ft st moves t).count
unfolding tally_of
rises_all h p items ft st [] t r = r
rises_all h p items ft st (move ∷ moves) t r =
    rises_all h p items ft (state_after st move) moves (tally_after h p items ft st move t) (rises_after h p items ft st move t r)

-- two children on one page are one
one_child : (S : List ℕ) (F : List Slot) (x y : Item) → IsChild S F x → IsChild S F y → x.syllable ≡ y.syllable → x ≡ y
one_child S F x y a b same = λ i. record { syllable = same i; block = block i; pages = pages i; table = table i; version = version i }
  where
    slot : a.slot ≡ b.slot
    slot = same_Some a.slot b.slot (sym a.there ∙ ap (slice_get F) same ∙ b.there)

    block : x.block ≡ y.block
    block = let e : Open x.block ≡ Open y.block = sym a.writes ∙ ap (λ (s : Slot). s.write) slot ∙ b.writes in cc

    pages : x.pages ≡ y.pages
    pages = sym a.pages ∙ ap (λ g. word_at S g 65) block ∙ b.pages

    table : x.table ≡ y.table
    table = sym a.table ∙ ap (λ g. word_at S g 66) block ∙ b.table

    version : x.version ≡ y.version
    version = sym a.version ∙ ap (λ g. word_at S g 67) block ∙ b.version

heads : (a b : ℕ) (xs ys : List ℕ) → a ∷ xs ≡ b ∷ ys → (a ≡ b) × (xs ≡ ys)
heads a b xs ys e = (cc, cc)

-- and the machines on one path are the same
one_row : (S : List ℕ) (F : List Slot) (j : ℕ) (xs ys : List Item) → Chained S F j xs → Chained S F j ys → syllables xs ≡ syllables ys → xs ≡ ys
one_row S F j [] [] a b e = refl
one_row S F j [] (y ∷ ys) a b e = absurd (let f : [] ≡ y.syllable ∷ syllables ys = e in cc)
one_row S F j (x ∷ xs) [] a b e = absurd (let f : x.syllable ∷ syllables xs ≡ [] = e in cc)
one_row S F j (x ∷ xs) (y ∷ ys) a b e =
    let parts = heads x.syllable y.syllable (syllables xs) (syllables ys) e in
    let first = one_child S F x y a.0 b.0 parts.0 in
    let others : Chained S (compose S F j x.pages x.table x.version) (j + 1) ys = subst (λ (z : Item). Chained S (compose S F j z.pages z.table z.version) (j + 1) ys) (sym first) b.1 in
    (λ i. first i ∷ one_row S (compose S F j x.pages x.table x.version) (j + 1) xs ys a.1 others parts.1 i)

-- the slot of a page that can be read
record Read (F : List Slot) (y : ℕ) : Type 0 where
  slot : Slot
  host : ℕ
  there : slice_get F y ≡ Some slot
  reads : slot.read ≡ Open host

slot_read : (F : List Slot) (y : ℕ) → can_read F y ≡ true → Read F y
slot_read F y e = at (slice_get F y) refl e
  where
    way : (s : Slot) (w : Way) → slice_get F y ≡ Some s → s.read ≡ w → opens (Some w) ≡ true → Read F y
    way s (Open g) is r h = record { slot = s; host = g; there = is; reads = r }
    way s (Shut l c p w) is r h = absurd (let f : false ≡ true = h in cc)

    at : (o : Option Slot) → slice_get F y ≡ o → opens (option_map (λ (s : Slot). s.read) o) ≡ true → Read F y
    at None is h = absurd (let f : false ≡ true = h in cc)
    at (Some s) is h = way s s.read is refl h

-- a storage that agrees with all pages is what is seen
pub all_seen : (S T : List ℕ) (F : List Slot) → length T ≡ 1024 * length F → Agree F S T → first_absent F ≡ None → T ≡ seen S F
all_seen S T F size agree readable = ext_get_or 0 T (seen S F) (size ∙ sym (length-seen S F)) at
  where
    at : (a : ℕ) → a < length T → get_or T a 0 ≡ get_or (seen S F) a 0
    at a h =
        let page : a / 1024 < length F = omega (arith, size, h) in
        let word : a % 1024 < 1024 = omega arith in
        let place : 1024 * (a / 1024) + a % 1024 ≡ a = omega arith in
        let r = slot_read F (a / 1024) (all_read F readable (a / 1024) page) in
        ap (λ (n : ℕ). get_or T n 0) (sym place)
        ∙ sym (agree (a / 1024) r.host (a % 1024) r.slot r.there r.reads word)
        ∙ sym (word_at-seen S F (a / 1024) r.host (a % 1024) r.slot r.there r.reads word)
        ∙ ap (λ (n : ℕ). get_or (seen S F) n 0) place

-- the bare machine itself is watched as hart 0
root_hart : (h : ℕ) (path : List ℕ) (items : List Item) → syllables items ≡ path → (path ≡ [] → h ≡ 0) → hart_along items h ≡ 0
root_hart h path [] at root = root (sym at)
root_hart h path (x ∷ xs) at root = refl

-- the link at the end of a watched run
linked_after : (h : ℕ) (path : List ℕ) (items : List Item) (start : State) (moves : List Move) (t : Tally) → IsWatchedRun h path items start moves t → LinkedAfter h items start.storage (map_along start.storage items) (last_of start moves) (bare_of (seen start.storage (map_along start.storage items)) (own h items start) t.changes t.count)
unfolding bare_of
linked_after h path items start moves t run =
    let S : List ℕ = start.storage in
    let F : List Slot = map_along S items in
    let T : List ℕ = seen S F in
    let c : Regs = own h items start in
    let at : syllables items ≡ path = on_path S path items run.pinned in
    let stand : Alone S items F = alone S path items run.short run.pinned run.apart in
    let free : (tally_of h path items (foot S items) start moves no_tally).touched ≡ false = ap (λ (u : Tally). u.touched) (sym run.told) ∙ run.untouched in
    let keeps : RunKeeps h path items S F start moves = run_keeps h path items S stand (root_path path items at) moves start no_tally run.masked free in
    let kept : RunKeeps h (syllables items) items S F start moves = subst (λ (q : List ℕ). RunKeeps h q items S F start moves) (sym at) keeps in
    let after : LinkedAfter h items S F (last_of start moves) (last_of (runs_alone T c) (bare_run h (syllables items) items start moves)) =
    runs_alike S items F stand h (root_hart h path items at run.root) moves start T c (start_linked h items start stand) run.hart kept
    in
    let same : last_of (runs_alone T c) (bare_moves 0 t.changes t.count) ≡ last_of (runs_alone T c) (bare_run h (syllables items) items start moves) =
    ap (λ (u : Tally). last_of (runs_alone T c) (bare_moves 0 u.changes u.count)) run.told
    ∙ ap (last_of (runs_alone T c)) (told_moves h path items (foot S items) moves start)
    ∙ ap (λ (q : List ℕ). last_of (runs_alone T c) (bare_run h q items start moves)) (sym at)
    in
    subst (LinkedAfter h items S F (last_of start moves)) (sym same) after

-- the machines on the path are there as at the start, and the map of the last is the same, where its words are
module _ (A B : List ℕ) (items : List Item) (long : length B ≡ length A) (chain : EachChain (λ g w. word_at A g w ≡ word_at B g w) A (identity (page_count A)) 0 items) where
  pub same_count : page_count B ≡ page_count A
  same_count = ap (λ n. n / 1024) long

  pub same_map : map_along B items ≡ map_along A items
  unfolding map_along
  same_map =
      ap (λ n. along B (identity n) 0 items) same_count
      ∙ sym (along_agrees A B (identity (page_count A)) 0 items chain)

  same_items : (path : List ℕ) (again : List Item) → pin_of A path ≡ Some items → pin_of B path ≡ Some again → again ≡ items
  unfolding pin_of
  same_items path again first now =
      let a = machines_chained A (identity (page_count A)) 0 path items first in
      let b = machines_chained B (identity (page_count B)) 0 path again now in
      let there : Chained B (identity (page_count A)) 0 items = chained_agrees A B (identity (page_count A)) 0 items chain a.1 in
      let here : Chained B (identity (page_count A)) 0 again = subst (λ n. Chained B (identity n) 0 again) same_count b.1 in
      one_row B (identity (page_count A)) 0 again items here there (b.0 ∙ sym a.0)

-- a capsule that is saved at the end of a watched run is the bare machine
saved_is : (h : ℕ) (path : List ℕ) (items again : List Item) (start st : State) (m : Parked) (bare : State) → pin_of start.storage path ≡ Some items → pin_of st.storage path ≡ Some again → IsMachineIn st h again m → LinkedAfter h items start.storage (map_along start.storage items) st bare → bare ≡ runs_alone m.storage m.regs
unfolding LinkedAfter
saved_is h path items again start st m bare first now is after =
    let A = start.storage in
    let T = after.0 in
    let c = after.1 in
    let link = after.3 in
    let row : again ≡ items = same_items A st.storage items link.len link.chain path again first now in
    let map : map_along st.storage again ≡ map_along A items = ap (map_along st.storage) row ∙ same_map A st.storage items link.len link.chain in
    let readable : first_absent (map_along A items) ≡ None = ap first_absent (sym map) ∙ is.readable in
    let storage : T ≡ m.storage = all_seen st.storage T (map_along A items) link.sees.size link.sees.agree readable ∙ ap (seen st.storage) (sym map) ∙ sym is.storage in
    let regs : c ≡ m.regs = sym link.regs ∙ ap (λ (xs : List Item). own h xs st) (sym row) ∙ sym is.regs in
    after.2 ∙ (λ i. runs_alone (storage i) (regs i))

pub moved_runs : MovedRunLaw
moved_runs h k path place items there again start anew moves more t u m run now is next at =
    let T : List ℕ = seen start.storage (map_along start.storage items) in
    let c : Regs = own h items start in
    let rises : Rises 0 t.changes t.count =
    subst (λ (v : Tally). Rises 0 v.changes v.count) (sym run.told) (rises_all h path items (foot start.storage items) start moves no_tally (omega arith))
    in
    let bare = saved_is h path items again start (last_of start moves) m (bare_of T c t.changes t.count) run.pinned now is (linked_after h path items start moves t run) in
    let both : bare_of T c (t.changes ++ later t.count u.changes) (t.count + u.count) ≡ bare_of m.storage m.regs u.changes u.count = continued T m.storage c m.regs t.changes u.changes t.count u.count rises bare in
    let second : Alike k there (map_along anew.storage there) (last_of anew more) (bare_of (seen anew.storage (map_along anew.storage there)) (own k there anew) u.changes u.count) =
    whole_runs k place there anew more u next.hart next.root next.masked next.short next.pinned next.apart next.told next.untouched
    in
    let same : bare_of (seen anew.storage (map_along anew.storage there)) (own k there anew) u.changes u.count ≡ bare_of T c (t.changes ++ later t.count u.changes) (t.count + u.count) =
    (λ i. bare_of (sym at.storage i) (sym at.regs i) u.changes u.count) ∙ sym both
    in
    subst (Alike k there (map_along anew.storage there) (last_of anew more)) same second
