-- A fault that was counted stays counted.
use Rattle.std.proofs.Common.{◌≡◌, ℕ, Bool, true, List, [], ◌∷◌, refl, ◌∙◌}
use Rattle.std.specs.Prelude.{◌==◌}
use Rattle.std.specs.List.{list_any}
use Rattle.std.proofs.lemmas.List.Folds.{list_any-append}
use Rattle.std.proofs.lemmas.Bool.{or_left, or_right}
use Rattle.hv_store.specs.declared.access.Access.{Access}
use Rattle.hv_nest.specs.declared.outcome.StepKind.{StepKind}
use Rattle.hv_nest.specs.declared.outcome.StepKind.TheVariants.{Worked as WorkedKind, Recall, Fault}
use Rattle.hv_nest.specs.State.{State}
use Rattle.hv_nest.specs.Move.{Move, StepOf, LinesOf, moved_of, state_after}
use Rattle.hv_run.specs.Record.{FaultRecord, Count, kind_counted, count_after, count_of}

-- whether one of the faults has cause 5
abbrev pub any_deep : List FaultRecord → Bool
any_deep faults = list_any (λ (f : FaultRecord). f.cause == 5) faults

kind_stays : (c : Count) (hart : ℕ) (kind : StepKind) → any_deep c.faults ≡ true → any_deep (kind_counted c hart kind).faults ≡ true
kind_stays c hart WorkedKind e = e
kind_stays c hart (Recall l) e = e
kind_stays c hart (Fault l cause address a) e =
    list_any-append (λ (f : FaultRecord). f.cause == 5) c.faults _
    ∙ or_left (any_deep c.faults) _ e

move_stays : (st : State) (move : Move) (c : Count) → any_deep c.faults ≡ true → any_deep (count_after st move c).faults ≡ true
move_stays st (StepOf hart) c e = kind_stays c hart (moved_of st hart).kind e
move_stays st (LinesOf hart mask) c e = e

pub faults_stay : (moves : List Move) (st : State) (c : Count) → any_deep c.faults ≡ true → any_deep (count_of st moves c).faults ≡ true
unfolding count_of
faults_stay [] st c e = e
faults_stay (move ∷ moves) st c e = faults_stay moves (state_after st move) (count_after st move c) (move_stays st move c e)

-- one that comes is counted
pub deep_counted : (c : Count) (hart l address : ℕ) (a : Access) → any_deep (kind_counted c hart (Fault l 5 address a)).faults ≡ true
deep_counted c hart l address a =
    list_any-append (λ (f : FaultRecord). f.cause == 5) c.faults _
    ∙ or_right (any_deep c.faults) _ refl
