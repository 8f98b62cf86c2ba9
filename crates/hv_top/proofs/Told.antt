-- What is told of the watches of a job that was played.
use Rattle.std.proofs.Common.{◌≡◌, ℕ, zero, suc, ◌+◌, ◌≤◌, Bool, true, false, cond, Option, Some, None, List, [], ◌∷◌, ◌++◌, refl, sym, ap, ◌∙◌, subst, arith}
use Rattle.std.specs.Prelude.{flat_map, replicate}
use Rattle.std.specs.List.{All}
use Rattle.std.proofs.lemmas.List.Elements.{All-nil, All-cons, All-append}
use Rattle.std.proofs.lemmas.List.Sums.{sum_by-cons}
use Rattle.hv_irq.specs.declared.Event.{Event}
use Rattle.hv_irq.specs.declared.Event.TheVariants.{Turn, Lines}
use Rattle.hv_irq.specs.Events.{steps_of, total_of}
use Rattle.hv_map.specs.Item.{Item}
use Rattle.hv_map.specs.Chain.{pin_of, IsThere}
use Rattle.hv_nest.specs.State.{State}
use Rattle.hv_nest.specs.Move.{Move, StepOf, LinesOf, state_after}
use Rattle.hv_nest.specs.Watched.{Tally, no_tally, is_counted, beside, tally_after, tally_of, foot, last_block}
use Rattle.hv_run.specs.Record.{WatchOf, schedule, watch_record, watch_records, record_of}
use Rattle.hv_limits.specs.Limits.{kept_limit, steps_limit}
use Rattle.hv_run.specs.Run.{steps_in}
use Rattle.hv_run.specs.Stands.{EachWatch, IsWatchable, CanWatch}
use Rattle.hv_twin.proofs.Told.{told_never_fall, told_have_lines}
use Rattle.hv_top.specs.Check.{IsMachine, IsRow}

-- at most each step is counted
one_counted : (b : Bool) (t u : Tally) → u.count ≡ t.count → (let v : Tally = cond b (record t { count = t.count + 1 }) u in v.count) ≤ t.count + 1
one_counted true t u e = omega arith
one_counted false t u e = omega (arith, e)

counted : (h : ℕ) (p : List ℕ) (items : List Item) (ft : List ℕ) (st : State) (moves : List Move) (t : Tally) → (tally_of h p items ft st moves t).count ≤ t.count + steps_in moves
unfolding tally_of steps_in
counted h p items ft st [] t = omega arith
counted h p items ft st (StepOf hart ∷ moves) t =
    let next = state_after st (StepOf hart) in
    let one = one_counted (is_counted h p st (StepOf hart)) t (beside h items ft st next t) refl in
    let more = counted h p items ft next moves (tally_after h p items ft st (StepOf hart) t) in
    omega (arith, one, more)
counted h p items ft st (LinesOf hart mask ∷ moves) t =
    counted h p items ft (state_after st (LinesOf hart mask)) moves (tally_after h p items ft st (LinesOf hart mask) t)

-- the steps of a schedule are those of its turns
steps_joined : (xs ys : List Move) → steps_in (xs ++ ys) ≡ steps_in xs + steps_in ys
unfolding steps_in
steps_joined [] ys = omega arith
steps_joined (StepOf hart ∷ xs) ys = omega (arith, steps_joined xs ys)
steps_joined (LinesOf hart mask ∷ xs) ys = steps_joined xs ys

steps_turn : (hart n : ℕ) → steps_in (replicate n (StepOf hart)) ≡ n
unfolding steps_in
steps_turn hart zero = refl
steps_turn hart (suc n) = omega (arith, steps_turn hart n)

steps_lines : (hart mask : ℕ) → steps_in (LinesOf hart mask ∷ []) ≡ 0
unfolding steps_in
steps_lines hart mask = refl

steps_none : steps_in [] ≡ 0
unfolding steps_in
steps_none = refl

pub steps_scheduled : (events : List Event) → steps_in (schedule events) ≡ total_of events
steps_scheduled [] = steps_none
steps_scheduled (Turn hart n ∷ events) =
    steps_joined (replicate n (StepOf hart)) (schedule events)
    ∙ ap (λ (k : ℕ). k + steps_in (schedule events)) (steps_turn hart n)
    ∙ ap (λ (k : ℕ). n + k) (steps_scheduled events)
    ∙ sym (sum_by-cons steps_of (Turn hart n) events)
steps_scheduled (Lines hart mask ∷ events) =
    steps_joined (LinesOf hart mask ∷ []) (schedule events)
    ∙ ap (λ (k : ℕ). k + steps_in (schedule events)) (steps_lines hart mask)
    ∙ ap (λ (k : ℕ). 0 + k) (steps_scheduled events)
    ∙ sym (sum_by-cons steps_of (Lines hart mask) events)

module _ (start : State) (moves : List Move) (few : steps_in moves ≤ steps_limit) where
  row_one : (w : WatchOf) → IsWatchable start w → All (IsRow start) (watch_records w start moves (pin_of start.storage w.path))
  row_one w can = at (pin_of start.storage w.path) refl can.machine
    where
      at : (o : Option (List Item)) → pin_of start.storage w.path ≡ o → IsThere start.storage o → All (IsRow start) (watch_records w start moves o)
      at None is h = absurd h
      at (Some items) is h =
          let ft = foot start.storage items in
          All-cons (IsRow start) (watch_record w start items (tally_of w.hart w.path items ft start moves no_tally)) []
          record {
            hart = can.hart;
            machine = subst (IsMachine start.storage (last_block items)) (sym is) (refl, h);
            steps = omega (arith, counted w.hart w.path items ft start moves no_tally, few);
            counts = told_never_fall kept_limit w.hart w.path items ft start moves;
            bits = told_have_lines kept_limit w.hart w.path items ft start moves;
          }
          (All-nil (IsRow start))

  row_each : (ws : List WatchOf) → EachWatch (IsWatchable start) ws → All (IsRow start) (flat_map (λ (w : WatchOf). watch_records w start moves (pin_of start.storage w.path)) ws)
  row_each [] can = All-nil (IsRow start)
  row_each (w ∷ ws) can = All-append (IsRow start) (watch_records w start moves (pin_of start.storage w.path)) (flat_map (λ (w : WatchOf). watch_records w start moves (pin_of start.storage w.path)) ws) (row_one w can.0) (row_each ws can.1)

  pub rows : (ws : List WatchOf) → CanWatch start ws → All (IsRow start) (record_of start moves ws).watches
  unfolding record_of
  rows ws can = row_each ws can
