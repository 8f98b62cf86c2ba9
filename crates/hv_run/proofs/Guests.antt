-- A watched machine is as a bare machine that runs alone.
use Rattle.std.proofs.Common.{◌≡◌, ℕ, zero, suc, ◌*◌, ◌<◌, true, false, Option, Some, None, List, [], ◌∷◌, length, take, refl, sym, ap, ◌∙◌, subst, arith, slice_get}
use Rattle.std.proofs.lemmas.List.{take_all}
use Rattle.hv_word.specs.Storage.{page_count}
use Rattle.hv_cpu.specs.Regs.{Regs}
use Rattle.hv_map.specs.Item.{Item}
use Rattle.hv_map.specs.Chain.{map_along, pin_of}
use Rattle.hv_map.specs.Apart.{is_apart}
use Rattle.hv_map.specs.Seen.{seen}
use Rattle.hv_nest.specs.State.{State, hart_regs}
use Rattle.hv_nest.specs.Move.{Move, last_of}
use Rattle.hv_nest.specs.Watched.{Tally, no_tally, tally_of, foot, last_block}
use Rattle.hv_nest.specs.Bare.{bare_of}
use Rattle.hv_whole.specs.Whole.{own, regs_of, AreMasked}
use Rattle.hv_whole.proofs.Readings.{regs_last}
use Rattle.hv_whole.proofs.WholeRuns.{whole_runs, on_path, root_path}
use Rattle.hv_whole.proofs.Roots.{root_run, root_sees}
use Rattle.hv_run.specs.Record.{WatchOf, watch_record}
use Rattle.hv_run.specs.Run.{state_at}
use Rattle.hv_run.specs.Stands.{IsWatchable, IsSized}
use Rattle.hv_run.specs.Promises.{tally_at, twin_after, HasRegisters, IsAsBare, IsBareRun, GuestsLaw}
use Rattle.hv_run.proofs.Runs.{first_masked, run_harts}

-- where there is no last block there is no machine inside
no_block : (items : List Item) → last_block items ≡ None → items ≡ []
no_block [] e = refl
no_block (x ∷ []) e = cc
no_block (x ∷ (y ∷ ys)) e = let none : y ∷ ys ≡ [] = no_block (y ∷ ys) e in cc

-- a hart that is there
of_hart : (rs : List Regs) (h : ℕ) → h < length rs → slice_get rs h ≡ Some (hart_regs (slice_get rs h))
of_hart [] h lt = absurd (omega (arith, lt))
of_hart (r ∷ rs) zero lt = refl
of_hart (r ∷ rs) (suc h) lt = of_hart rs h (omega (arith, lt))

-- the only one
only : (rs : List Regs) → length rs ≡ 1 → hart_regs (slice_get rs 0) ∷ [] ≡ rs
only [] e = absurd (omega (arith, e))
only (r ∷ []) e = refl
only (r ∷ (q ∷ rs)) e = absurd (omega (arith, e))

registers_by : (h : ℕ) (items : List Item) (st : State) → h < length st.harts → (o : Option ℕ) → last_block items ≡ o → HasRegisters h o st (own h items st)
registers_by h items st there None e =
    of_hart st.harts h there ∙ ap (λ (xs : List Item). Some (own h xs st)) (sym (no_block items e))
registers_by h items st there (Some g) e = sym (regs_last st.storage items (regs_of h st) g e)

-- what is said of the bare machine itself
abbrev IsWhole : State → List Move → ℕ → List ℕ → List Item → Tally → Type 0
IsWhole start moves h path items t =
    t.touched ≡ false → last_of start moves ≡ bare_of (seen start.storage (map_along start.storage items)) (own h items start) t.changes t.count

abbrev Whole : State → List Move → ℕ → List ℕ → List Item → Type 0
Whole start moves h path items =
    IsWhole start moves h path items (tally_of h path items (foot start.storage items) start moves no_tally)

root_whole : (start : State) (moves : List Move) → length start.harts ≡ 1 → AreMasked moves → length start.storage ≡ 1024 * page_count start.storage → Whole start moves 0 [] []
root_whole start moves one masked sized quiet =
    let t : Tally = tally_of 0 [] [] (foot start.storage []) start moves no_tally in
    let last : State = last_of start moves in
    sym
    (ap (λ (T : List ℕ). bare_of T (regs_of 0 start) t.changes t.count) (root_sees start.storage sized)
    ∙ root_run whole_runs start moves t (omega (arith, one)) masked sized refl quiet
    ∙ ap (λ (rs : List Regs). record { storage = last.storage; harts = rs }) (only last.harts (run_harts start moves ∙ one)))

whole_by : (start : State) (moves : List Move) (h : ℕ) (path : List ℕ) (items : List Item) → h ≡ 0 → path ≡ [] → items ≡ [] → Whole start moves 0 [] [] → Whole start moves h path items
whole_by start moves h path items eh ep ei base =
    subst (λ (n : ℕ). Whole start moves n path items) (sym eh)
    (subst (λ (p : List ℕ). Whole start moves 0 p items) (sym ep)
    (subst (λ (xs : List Item). Whole start moves 0 [] xs) (sym ei) base))

-- after some moves
bare_after : (start : State) (moves : List Move) (w : WatchOf) (items : List Item) (t : Tally) → IsWatchable start w → IsSized start w → AreMasked moves → pin_of start.storage w.path ≡ Some items → is_apart start.storage items ≡ true
    → t ≡ tally_of w.hart w.path items (foot start.storage items) start moves no_tally → t.touched ≡ false
    → IsAsBare start w items (last_of start moves) (twin_after start w items t)
bare_after start moves w items t can sized masked e d told quiet =
    let last : State = last_of start moves in
    let first : w.path ≡ [] → w.hart ≡ 0 = λ root. (let one : length start.harts ≡ 1 = can.bare root in omega (arith, one, can.hart)) in
    let alike = whole_runs w.hart w.path items start moves t can.hart first masked sized.path e d told quiet in
    let there : w.hart < length last.harts = (let n : length last.harts ≡ length start.harts = run_harts start moves in omega (arith, n, can.hart)) in
    record {
      regs = own w.hart items last;
      hart = alike.regs;
      registers = registers_by w.hart items last there (last_block items) refl;
      size = alike.size;
      pages = alike.pages;
      whole = λ none.
          let root : w.path ≡ [] = root_path w.path items (on_path start.storage w.path items e) none in
          subst (λ (u : Tally). IsWhole start moves w.hart w.path items u) (sym told)
          (whole_by start moves w.hart w.path items (first root) root none (root_whole start moves (can.bare root) masked sized.storage)) quiet;
    }

one_guest : (start : State) (moves : List Move) (w : WatchOf) → IsWatchable start w → IsSized start w → AreMasked moves → IsBareRun start moves w
one_guest start moves w can sized masked items k e d le quiet =
    bare_after start (take k moves) w items (tally_at start moves w items k) can sized (first_masked moves k masked) e d refl quiet

pub guests : GuestsLaw
guests start moves [] can sized masked = tt
guests start moves (w ∷ ws) can sized masked =
    (one_guest start moves w can.0 sized.0 masked, guests start moves ws can.1 sized.1 masked)

-- what that says of the end of the run, for a watch that tells that it stood apart and wasn't touched
pub at_last : (start : State) (moves : List Move) (w : WatchOf) (items : List Item) (t : Tally) → IsBareRun start moves w → pin_of start.storage w.path ≡ Some items → t ≡ tally_of w.hart w.path items (foot start.storage items) start moves no_tally
    → (watch_record w start items t).apart ≡ true → (watch_record w start items t).touched ≡ false → IsAsBare start w items (last_of start moves) (twin_after start w items t)
at_last start moves w items t bare e told d quiet =
    let all : take (length moves) moves ≡ moves = take_all (length moves) moves (omega arith) in
    let here : tally_at start moves w items (length moves) ≡ t =
    ap (λ (ms : List Move). tally_of w.hart w.path items (foot start.storage items) start ms no_tally) all ∙ sym told in
    subst (λ (ms : List Move). IsAsBare start w items (last_of start ms) (twin_after start w items t)) all
    (subst (λ (u : Tally). IsAsBare start w items (state_at start moves (length moves)) (twin_after start w items u)) here
    (bare items (length moves) e d (omega arith) (ap (λ (u : Tally). u.touched) here ∙ quiet)))
