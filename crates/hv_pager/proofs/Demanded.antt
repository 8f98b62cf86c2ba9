-- A machine whose pages come on demand is as a bare machine that has them all from the start.
use Rattle.std.proofs.Common.{◌≡◌, ℕ, ◌<◌, List, [], ◌∷◌, length, Option, Some, None, refl, ap, ◌∙◌, sym, subst, get_or}
use Rattle.std.specs.Option.{option_map}
use Rattle.std.proofs.lemmas.Option.{slice_get_within}
use Rattle.hv_word.specs.Storage.{word_at}
use Rattle.hv_cpu.specs.Regs.{Regs}
use Rattle.hv_store.specs.declared.access.Slot.{Slot}
use Rattle.hv_store.specs.declared.access.Way.{Way}
use Rattle.hv_store.specs.declared.access.Way.TheVariants.{Open, Shut}
use Rattle.hv_map.specs.Item.{Item}
use Rattle.hv_map.specs.Compose.{reading}
use Rattle.hv_map.specs.Chain.{map_along, map_of}
use Rattle.hv_map.specs.Seen.{words_of}
use Rattle.hv_map.specs.Words.{syllables}
use Rattle.hv_map.proofs.Handed.{reading_slot}
use Rattle.hv_nest.specs.Routing.{hart_along}
use Rattle.hv_nest.specs.State.{State}
use Rattle.hv_nest.specs.Move.{last_of}
use Rattle.hv_nest.specs.Watched.{Tally, foot}
use Rattle.hv_nest.specs.Bare.{alone, bare_moves, bare_of}
use Rattle.hv_whole.specs.Whole.{own, Alike}
use Rattle.hv_whole.specs.Linked.{bare_run}
use Rattle.hv_whole.proofs.Apartness.{reading_at}
use Rattle.hv_whole.proofs.Tallies.{told_moves}
use Rattle.hv_whole.proofs.WholeRuns.{on_path, root_path}
use Rattle.hv_pager.specs.Paging.{Arrivals, no_arrival, arrivals_by, arrivals_at, arrivals_first, arrivals_of, demand, PagedLaw}
use Rattle.hv_pager.proofs.Pages.{page_length, word_of_page, word_demand}
use Rattle.hv_pager.proofs.Paged.{Paged, PagedAfter, Shadow, first_of_all, all_moves}

root_hart : (h : ℕ) (path : List ℕ) (items : List Item) → syllables items ≡ path → (path ≡ [] → h ≡ 0) → hart_along items h ≡ 0
root_hart h path [] at root = root (sym at)
root_hart h path (x ∷ xs) at root = refl

some_none : (ws : List ℕ) → Some ws ≡ None → ⊥
some_none ws e = cc

-- what is seen at the start
shadow_first : (S T : List ℕ) (E : Arrivals) (i : ℕ) (o : Option Way)
    → ((ws : List ℕ) → (arrivals_by S no_arrival o).first ≡ Some ws → E.first ≡ Some ws)
    → ((ws : List ℕ) (w : ℕ) → E.first ≡ Some ws → w < 1024 → get_or ws w 0 ≡ word_at T i w)
    → Shadow E (arrivals_by S no_arrival o) T i
shadow_first S T E i None comes has = record {
  last = λ ws w e small. absurd (some_none ws (sym e));
  fresh = λ ws w e f small. has ws w f small;
  paired = λ e. refl;
}
shadow_first S T E i (Some (Shut l c a b)) comes has = record {
  last = λ ws w e small. absurd (some_none ws (sym e));
  fresh = λ ws w e f small. has ws w f small;
  paired = λ e. refl;
}
shadow_first S T E i (Some (Open g)) comes has = record {
  last = λ ws w e small. has ws w (comes ws e) small;
  fresh = λ ws w e f small. absurd (some_none (words_of S 1024 (Open g)) e);
  paired = λ e. absurd (some_none (words_of S 1024 (Open g)) e);
}

alike_after : (h : ℕ) (path : List ℕ) (items : List Item) (E pages : ℕ → Arrivals) (st bare : State) → PagedAfter h path items E pages st bare → Alike h items (map_along st.storage items) st bare
unfolding PagedAfter
alike_after h path items E pages st bare after =
    subst (Alike h items (map_along st.storage items) st) (sym after.2) record {
      regs = ap (λ (r : Regs). r ∷ []) (sym after.3.regs);
      size = after.3.size;
      pages = λ y x w s is e small. after.3.opens y x w (reading_at (map_along st.storage items) y x s is e) small;
    }

pub paged_run : PagedLaw
unfolding bare_of
paged_run h path items start moves t there root masked short pin apart smooth told =
    subst (Alike h items (map_along (last_of start moves).storage items) (last_of start moves)) (sym same)
    (alike_after h path items E E (last_of start moves) (last_of (alone T c) (bare_run h path items start moves)) after)
  where
    S : List ℕ
    S = start.storage

    pages : ℕ → Arrivals
    pages = arrivals_first start.storage path

    E : ℕ → Arrivals
    E = arrivals_of path start moves (arrivals_first start.storage path)

    n : ℕ
    n = length (map_along start.storage items)

    T : List ℕ
    T = demand (length (map_along start.storage items)) (arrivals_of path start moves (arrivals_first start.storage path))

    c : Regs
    c = own h items start

    at : syllables items ≡ path
    at = on_path start.storage path items pin

    map_is : map_of start.storage path ≡ Some (map_along start.storage items)
    map_is = ap (option_map (map_along start.storage)) pin

    first_at : (i : ℕ) → arrivals_by start.storage no_arrival (reading (map_along start.storage items) i) ≡ arrivals_first start.storage path i
    first_at i = ap (λ (m : Option (List Slot)). arrivals_at start.storage m (λ k. no_arrival) i) (sym map_is)

    comes : (i : ℕ) (ws : List ℕ) → (arrivals_first start.storage path i).first ≡ Some ws → (arrivals_of path start moves (arrivals_first start.storage path) i).first ≡ Some ws
    comes i ws e = first_of_all path moves start (arrivals_first start.storage path) i ws e

    has : (i : ℕ) → i < length (map_along start.storage items) → (ws : List ℕ) (w : ℕ) → (arrivals_of path start moves (arrivals_first start.storage path) i).first ≡ Some ws → w < 1024 → get_or ws w 0 ≡ word_at (demand (length (map_along start.storage items)) (arrivals_of path start moves (arrivals_first start.storage path))) i w
    has i inside ws w e small = sym (word_demand (length (map_along start.storage items)) (arrivals_of path start moves (arrivals_first start.storage path)) i w ws inside small e)

    open_first : (i g w : ℕ) → reading (map_along start.storage items) i ≡ Some (Open g) → w < 1024 → word_at start.storage g w ≡ word_at (demand (length (map_along start.storage items)) (arrivals_of path start moves (arrivals_first start.storage path))) i w
    open_first i g w e small =
        let r = reading_slot (map_along start.storage items) i (Open g) e in
        let inside : i < length (map_along start.storage items) = slice_get_within (map_along start.storage items) i r.0 r.1 in
        let came : (arrivals_first start.storage path i).first ≡ Some (words_of start.storage 1024 (Open g)) =
        ap (λ (p : Arrivals). p.first) (sym (first_at i))
        ∙ ap (λ (o : Option Way). (arrivals_by start.storage no_arrival o).first) e
        in
        sym (word_of_page start.storage g w small) ∙ has i inside (words_of start.storage 1024 (Open g)) w (comes i (words_of start.storage 1024 (Open g)) came) small

    begin : Paged h path items (arrivals_of path start moves (arrivals_first start.storage path)) (arrivals_first start.storage path) start (demand (length (map_along start.storage items)) (arrivals_of path start moves (arrivals_first start.storage path))) (own h items start)
    begin = record {
      pin = pin;
      apart = apart;
      size = page_length (length (map_along start.storage items)) (arrivals_of path start moves (arrivals_first start.storage path));
      regs = refl;
      opens = open_first;
      shadow = λ i inside. subst (λ (p : Arrivals). Shadow (arrivals_of path start moves (arrivals_first start.storage path) i) p (demand (length (map_along start.storage items)) (arrivals_of path start moves (arrivals_first start.storage path))) i) (first_at i)
          (shadow_first start.storage (demand (length (map_along start.storage items)) (arrivals_of path start moves (arrivals_first start.storage path))) (arrivals_of path start moves (arrivals_first start.storage path) i) i (reading (map_along start.storage items) i)
          (λ ws e. comes i ws (ap (λ (p : Arrivals). p.first) (sym (first_at i)) ∙ e))
          (has i inside));
    }

    after : PagedAfter h path items E E (last_of start moves) (last_of (alone T c) (bare_run h path items start moves))
    after = all_moves h path items (arrivals_of path start moves (arrivals_first start.storage path)) short at (root_path path items at) (root_hart h path items at root) moves start (arrivals_first start.storage path) (demand (length (map_along start.storage items)) (arrivals_of path start moves (arrivals_first start.storage path))) (own h items start) begin there masked smooth (λ i ws e. e)

    same : last_of (alone T c) (bare_moves 0 t.changes t.count) ≡ last_of (alone T c) (bare_run h path items start moves)
    same =
        ap (λ (u : Tally). last_of (alone T c) (bare_moves 0 u.changes u.count)) told
        ∙ ap (last_of (alone T c)) (told_moves h path items (foot start.storage items) moves start)
