-- What holds when a start has been played.
use Rattle.std.proofs.Common.{◌≡◌, ℕ, suc, ◌<◌, Option, Some, None, List, [], ◌∷◌, refl, sym, ap, subst, arith}
use Rattle.std.specs.Prelude.{◌/◌, IfSome, flat_map, slice_get}
use Rattle.std.specs.List.{All}
use Rattle.std.proofs.lemmas.List.Elements.{All-nil, All-cons, All-append}
use Rattle.hv_word.specs.Storage.{page_count}
use Rattle.hv_map.specs.Item.{Item}
use Rattle.hv_map.specs.Chain.{pin_of, IsThere}
use Rattle.hv_map.proofs.Machines.{pinned_own, pinned_fits}
use Rattle.hv_nest.specs.State.{State}
use Rattle.hv_nest.specs.Move.{Move, last_of}
use Rattle.hv_nest.specs.Watched.{no_tally, tally_of, foot, last_block}
use Rattle.hv_whole.proofs.Roots.{run_long}
use Rattle.hv_run.proofs.Runs.{run_harts}
use Rattle.hv_run.specs.Record.{WatchOf, watch_record, watch_records, record_of}
use Rattle.hv_run.specs.Stands.{EachWatch, IsWatchable, CanWatch}
use Rattle.hv_report.specs.Report.{IsInState, AreInState}

-- the block of the last machine lies in the storage
block_of_last : (P : ℕ → Type 0) (items : List Item) → ((i : ℕ) (x : Item) → slice_get items i ≡ Some x → P x.block) → IfSome (last_block items) P
block_of_last P [] each = tt
block_of_last P (x ∷ []) each = each 0 x refl
block_of_last P (x ∷ (y ∷ ys)) each = block_of_last P (y ∷ ys) (λ i z is. each (suc i) z is)

pub block_inside : (S path : List ℕ) (items : List Item) → pin_of S path ≡ Some items → IfSome (last_block items) (λ g. g < page_count S)
block_inside S path items is = block_of_last (λ g. g < page_count S) items (λ i x at. (pinned_fits S items i x (pinned_own S path items is) at).block)

module _ (start : State) (moves : List Move) where
  pages : page_count (last_of start moves).storage ≡ page_count start.storage
  pages = ap (λ (n : ℕ). n / 1024) (run_long start moves)

  there_one : (w : WatchOf) → IsWatchable start w → All (IsInState (last_of start moves)) (watch_records w start moves (pin_of start.storage w.path))
  there_one w can = at (pin_of start.storage w.path) refl can.machine
    where
      at : (o : Option (List Item)) → pin_of start.storage w.path ≡ o → IsThere start.storage o → All (IsInState (last_of start moves)) (watch_records w start moves o)
      at None is h = absurd h
      at (Some items) is h =
          All-cons (IsInState (last_of start moves)) (watch_record w start items (tally_of w.hart w.path items (foot start.storage items) start moves no_tally)) []
          (omega (arith, can.hart, run_harts start moves), subst (λ (n : ℕ). IfSome (last_block items) (λ g. g < n)) (sym pages) (block_inside start.storage w.path items is))
          (All-nil (IsInState (last_of start moves)))

  there_each : (ws : List WatchOf) → EachWatch (IsWatchable start) ws → All (IsInState (last_of start moves)) (flat_map (λ (w : WatchOf). watch_records w start moves (pin_of start.storage w.path)) ws)
  there_each [] can = All-nil (IsInState (last_of start moves))
  there_each (w ∷ ws) can = All-append (IsInState (last_of start moves)) (watch_records w start moves (pin_of start.storage w.path)) (flat_map (λ (w : WatchOf). watch_records w start moves (pin_of start.storage w.path)) ws) (there_one w can.0) (there_each ws can.1)

  pub there : (ws : List WatchOf) → CanWatch start ws → AreInState (last_of start moves) (record_of start moves ws).watches
  unfolding record_of
  there ws can = there_each ws can
