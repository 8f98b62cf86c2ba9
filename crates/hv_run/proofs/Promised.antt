-- What a play promises of the moves for which it stands.
use Rattle.std.proofs.Common.{List, ◌++◌}
use Rattle.hv_nest.specs.State.{State}
use Rattle.hv_nest.specs.Move.{Move}
use Rattle.hv_run.specs.Record.{WatchOf}
use Rattle.hv_run.specs.Play.{Played}
use Rattle.hv_run.specs.Stands.{Follows, StandsFor}
use Rattle.hv_run.specs.Promises.{AreBareRuns, AreBareRunsWith, FaultsAreRouted}
use Rattle.hv_run.proofs.Guests.{guests}
use Rattle.hv_run.proofs.Routes.{faults}

pub stands_bare : (p : Played) (start : State) (moves : List Move) (ws : List WatchOf) → StandsFor p start moves ws → AreBareRuns start moves ws
stands_bare p start moves ws stands = guests start moves ws stands.watched stands.sized stands.masked

pub follows_bare : (p : Played) (here : State) (q : Played) (there : State) (more : List Move) → Follows p here q there more → AreBareRunsWith p here more
follows_bare p here q there more follows start moves ws stands is =
    stands_bare q start (moves ++ more) ws (follows start moves ws stands is).0

pub stands_routed : (p : Played) (start : State) (moves : List Move) (ws : List WatchOf) → StandsFor p start moves ws → FaultsAreRouted start moves
stands_routed p start moves ws stands = faults start moves stands.inside
