-- Each fault of a run is routed.
use Rattle.std.proofs.Common.{◌≡◌, ℕ, zero, suc, ◌+◌, ◌<◌, ◌≤◌, IfSome, Option, Some, None, List, [], ◌∷◌, ◌++◌, length, get_or, take, refl, sym, ap, ◌∙◌, subst, arith, slice_get}
use Rattle.std.proofs.lemmas.List.{take_all, take_more}
use Rattle.std.proofs.lemmas.Option.{slice_get-get_or}
use Rattle.hv_word.specs.Storage.{page_count}
use Rattle.hv_cpu.specs.Regs.{Regs}
use Rattle.hv_nest.specs.declared.outcome.StepKind.{StepKind}
use Rattle.hv_nest.specs.declared.outcome.StepKind.TheVariants.{Worked as WorkedKind, Recall, Fault}
use Rattle.hv_nest.specs.State.{State, IsNextInside}
use Rattle.hv_nest.specs.Step.{Stepped, Worked, Recalled, Faulted, Barred, host_step_of}
use Rattle.hv_nest.specs.Move.{Move, StepOf, LinesOf, moved_by, moved_at, moved_of}
use Rattle.hv_nest.specs.Routing.{fault_of}
use Rattle.hv_nest.proofs.Routes.{routing}
use Rattle.hv_run.specs.Record.{FaultRecord, Count, no_count, kind_counted, count_after, count_of}
use Rattle.hv_run.specs.Run.{state_at, steps_in, StaysInside}
use Rattle.hv_run.specs.Promises.{fault_in, IsRoutedFrom, IsRoutedIn, IsRoutedFault, EachFault, AreRouted, FaultsLaw}
use Rattle.hv_run.proofs.Moves.{count_more}
use Rattle.hv_run.proofs.Runs.{inside_at, steps_step, steps_lines}

-- the fault of a step, as its kind tells it
same_fault : (st : State) (hart : ℕ) (X : Stepped) → fault_of X ≡ fault_in (moved_by st hart X).kind
same_fault st hart (Worked S r) = refl
same_fault st hart (Recalled l S r) = refl
same_fault st hart (Faulted l c address a S r) = refl
same_fault st hart (Barred e) = refl

routed_at : (st : State) (hart : ℕ) (o : Option Regs) → IfSome o (λ r. r.next < page_count st.storage) → IfSome o (λ r. IsRoutedFrom st.storage hart r (fault_in (moved_at st hart o).kind))
routed_at st hart None inside = tt
routed_at st hart (Some r) inside =
    let law = routing st.storage hart r inside in
    subst (IsRoutedFrom st.storage hart r) (same_fault st hart (host_step_of st.storage hart r))
    record { items = law.0; there = law.1; calm = law.2; busy = law.3 }

-- the outcome of a step is routed
pub step_routed : (st : State) (hart : ℕ) → IsNextInside st hart → IsRoutedIn st hart (fault_in (moved_of st hart).kind)
step_routed st hart inside = routed_at st hart (slice_get st.harts hart) inside

-- one more fault
each_pushed : (P : FaultRecord → Type 0) (fs : List FaultRecord) (f : FaultRecord) → EachFault P fs → P f → EachFault P (fs ++ f ∷ [])
each_pushed P [] f all one = (one, tt)
each_pushed P (g ∷ fs) f all one = (all.0, each_pushed P fs f all.1 one)

-- what is counted after some of the moves
record Counted (start : State) (moves : List Move) (k : ℕ) (c : Count) : Type 0 where
  steps : c.steps ≡ steps_in (take k moves)
  faults : AreRouted start moves c.faults

module _ (start : State) (moves : List Move) (all : StaysInside start moves) where
  step_counted : (k hart : ℕ) (c : Count) → slice_get moves k ≡ Some (StepOf hart) → take (k + 1) moves ≡ take k moves ++ StepOf hart ∷ [] → Counted start moves k c → (kind : StepKind) → (moved_of (state_at start moves k) hart).kind ≡ kind → Counted start moves (k + 1) (kind_counted c hart kind)
  step_counted k hart c at more done kind is =
      let st : State = state_at start moves k in
      let steps : c.steps + 1 ≡ steps_in (take (k + 1) moves) =
      ap (λ (n : ℕ). n + 1) done.steps ∙ sym (steps_step (take k moves) hart) ∙ ap steps_in (sym more) in
      by kind is steps
    where
      by : (kind : StepKind) → (moved_of (state_at start moves k) hart).kind ≡ kind → c.steps + 1 ≡ steps_in (take (k + 1) moves) → Counted start moves (k + 1) (kind_counted c hart kind)
      by WorkedKind is steps = record { steps = steps; faults = done.faults }
      by (Recall l) is steps = record { steps = steps; faults = done.faults }
      by (Fault l cause address a) is steps =
          let f : FaultRecord = record { step = c.steps + 1; hart = hart; receiver = l; cause = cause; address = address; access = a } in
          record {
            steps = steps;
            faults = each_pushed (IsRoutedFault start moves) c.faults f done.faults record {
              place = k;
              move = at;
              number = ap (λ (n : ℕ). n + 1) done.steps;
              kind = is;
              routed =
                  subst (λ (kind : StepKind). IsRoutedIn (state_at start moves k) hart (fault_in kind)) is
                  (step_routed (state_at start moves k) hart (inside_at start moves k (StepOf hart) all at));
            };
          }

  move_counted : (k : ℕ) (move : Move) (c : Count) → slice_get moves k ≡ Some move → take (k + 1) moves ≡ take k moves ++ move ∷ [] → Counted start moves k c → Counted start moves (k + 1) (count_after (state_at start moves k) move c)
  move_counted k (StepOf hart) c at more done =
      step_counted k hart c at more done (moved_of (state_at start moves k) hart).kind refl
  move_counted k (LinesOf hart mask) c at more done =
      record {
        steps = done.steps ∙ sym (steps_lines (take k moves) hart mask) ∙ ap steps_in (sym more);
        faults = done.faults;
      }

  first_counted : (k : ℕ) → k ≤ length moves → Counted start moves k (count_of start (take k moves) no_count)
  unfolding count_of steps_in
  first_counted zero le = record { steps = refl; faults = tt }
  first_counted (suc k) le =
      let move : Move = get_or moves k (StepOf 0) in
      let at : slice_get moves k ≡ Some move = slice_get-get_or moves k (StepOf 0) (omega (arith, le)) in
      let more : take (k + 1) moves ≡ take k moves ++ move ∷ [] = take_more moves k (StepOf 0) (omega (arith, le)) in
      let counted : Counted start moves (k + 1) (count_after (state_at start moves k) move (count_of start (take k moves) no_count)) =
      move_counted k move (count_of start (take k moves) no_count) at more (first_counted k (omega (arith, le))) in
      let next : k + 1 ≡ suc k = omega arith in
      subst (λ (n : ℕ). Counted start moves n (count_of start (take n moves) no_count)) next
      (subst (Counted start moves (k + 1))
      (sym (count_more start (take k moves) move no_count) ∙ ap (λ (ms : List Move). count_of start ms no_count) (sym more))
      counted)

pub faults : FaultsLaw
faults start moves all =
    subst (λ (ms : List Move). AreRouted start moves (count_of start ms no_count).faults) (take_all (length moves) moves (omega arith))
    (first_counted start moves all (length moves) (omega arith)).faults
