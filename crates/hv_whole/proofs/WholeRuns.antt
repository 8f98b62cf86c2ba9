-- A machine that stands apart is, over a whole run, as the bare machine that runs alone.
use Rattle.std.proofs.Common.{◌≡◌, ℕ, List, [], ◌∷◌, false, Some, refl, ap, ◌∙◌, sym, subst}
use Rattle.hv_word.specs.Storage.{page_count}
use Rattle.hv_store.specs.declared.access.Slot.{Slot}
use Rattle.hv_store.specs.Access.{identity}
use Rattle.hv_cpu.specs.Regs.{Regs}
use Rattle.hv_map.specs.Item.{Item}
use Rattle.hv_map.specs.Chain.{map_along, pin_of}
use Rattle.hv_map.specs.Seen.{seen}
use Rattle.hv_map.specs.Words.{syllables}
use Rattle.hv_map.proofs.Words.{machines_chained}
use Rattle.hv_nest.specs.Routing.{hart_along}
use Rattle.hv_nest.specs.State.{State}
use Rattle.hv_nest.specs.Move.{last_of}
use Rattle.hv_nest.specs.Watched.{Tally, no_tally, tally_of, foot}
use Rattle.hv_nest.specs.Bare.{alone as runs_alone, bare_moves, bare_of}
use Rattle.hv_whole.specs.Whole.{own, Alike, WholeRunLaw}
use Rattle.hv_whole.specs.Linked.{Alone, RunKeeps, bare_run}
use Rattle.hv_whole.proofs.Apartness.{alone}
use Rattle.hv_whole.proofs.Counted.{LinkedAfter}
use Rattle.hv_whole.proofs.Moves.{runs_alike}
use Rattle.hv_whole.proofs.Starts.{start_linked}
use Rattle.hv_whole.proofs.Tallies.{told_moves, run_keeps}

-- the path of these machines
pub on_path : (S path : List ℕ) (items : List Item) → pin_of S path ≡ Some items → syllables items ≡ path
unfolding pin_of
on_path S path items e = (machines_chained S (identity (page_count S)) 0 path items e).0

pub root_path : (path : List ℕ) (items : List Item) → syllables items ≡ path → items ≡ [] → path ≡ []
root_path path items at is = sym at ∙ ap syllables is

root_hart : (h : ℕ) (path : List ℕ) (items : List Item) → syllables items ≡ path → (path ≡ [] → h ≡ 0) → hart_along items h ≡ 0
root_hart h path [] at root = root (sym at)
root_hart h path (x ∷ xs) at root = refl

-- what the link says
alike_after : (h : ℕ) (items : List Item) (A : List ℕ) (F : List Slot) (st bare : State) → LinkedAfter h items A F st bare → Alike h items F st bare
unfolding LinkedAfter
alike_after h items A F st bare after =
    let link = after.3 in
    subst (Alike h items F st) (sym after.2) record {
      regs = ap (λ (r : Regs). r ∷ []) (sym link.regs);
      size = link.sees.size;
      pages = link.sees.agree;
    }

pub whole_runs : WholeRunLaw
unfolding bare_of
whole_runs h path items start moves t there root masked short e d told quiet =
    let S : List ℕ = start.storage in
    let F : List Slot = map_along S items in
    let T : List ℕ = seen S F in
    let c : Regs = own h items start in
    let at : syllables items ≡ path = on_path S path items e in
    let stand : Alone S items F = alone S path items short e d in
    let free : (tally_of h path items (foot S items) start moves no_tally).touched ≡ false = ap (λ (u : Tally). u.touched) (sym told) ∙ quiet in
    let keeps : RunKeeps h path items S F start moves = run_keeps h path items S stand (root_path path items at) moves start no_tally masked free in
    let kept : RunKeeps h (syllables items) items S F start moves = subst (λ (q : List ℕ). RunKeeps h q items S F start moves) (sym at) keeps in
    let after : LinkedAfter h items S F (last_of start moves) (last_of (runs_alone T c) (bare_run h (syllables items) items start moves)) =
    runs_alike S items F stand h (root_hart h path items at root) moves start T c (start_linked h items start stand) there kept
    in
    let same : last_of (runs_alone T c) (bare_moves 0 t.changes t.count) ≡ last_of (runs_alone T c) (bare_run h (syllables items) items start moves) =
    ap (λ (u : Tally). last_of (runs_alone T c) (bare_moves 0 u.changes u.count)) told
    ∙ ap (last_of (runs_alone T c)) (told_moves h path items (foot S items) moves start)
    ∙ ap (λ (q : List ℕ). last_of (runs_alone T c) (bare_run h q items start moves)) (sym at)
    in
    subst (Alike h items F (last_of start moves)) (sym same) (alike_after h items S F (last_of start moves) (last_of (runs_alone T c) (bare_run h (syllables items) items start moves)) after)
