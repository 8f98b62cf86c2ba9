-- What is promised of a start that was played, from what the play promises of its own state, moves and watches.
use Rattle.std.proofs.Common.{◌≡◌, List, subst}
use Rattle.hv_load.specs.declared.start.Start.{Start}
use Rattle.hv_nest.specs.State.{State}
use Rattle.hv_nest.specs.Move.{Move}
use Rattle.hv_run.specs.Promises.{AreBareRuns, FaultsAreRouted}
use Rattle.hv_run.specs.Record.{WatchOf}
use Rattle.hv_run.specs.Stands.{watches_of}
use Rattle.hv_top.specs.Run.{PlayIsPromised, state_of}
use Rattle.hv_top.proofs.Shown.{shown}

pub promised : (start : Start) (all : List Move) (plain : State) (moves : List Move) (ws : List WatchOf)
    → plain ≡ state_of start
    → moves ≡ all
    → ws ≡ watches_of start.plan.watches
    → AreBareRuns plain moves ws
    → FaultsAreRouted plain moves
    → PlayIsPromised all start
promised start all plain moves ws begun same watched guests routed =
    let watches : List WatchOf = watches_of start.plan.watches in
    let bare : AreBareRuns (state_of start) all watches =
    subst (λ (st : State). AreBareRuns st all watches) begun
    (subst (λ (ms : List Move). AreBareRuns plain ms watches) same
    (subst (λ (xs : List WatchOf). AreBareRuns plain moves xs) watched guests))
    in
    record {
      guests = bare;
      shown = shown (state_of start) all watches bare;
      routed =
          subst (λ (st : State). FaultsAreRouted st all) begun
          (subst (λ (ms : List Move). FaultsAreRouted plain ms) same routed);
    }
