-- The run of a play: the states that it goes through. A place in it is a moment.
use Rattle.std.specs.Prelude.{◌≡◌, ℕ, ◌+◌, ◌≤◌, List, [], ◌∷◌, length, take, Some, slice_get}
use Rattle.hv_nest.specs.State.{State, IsNextInside}
use Rattle.hv_nest.specs.Move.{Move, StepOf, LinesOf, state_after, last_of}

-- all states, from the start through each move
unfoldable pub states_of : State → List Move → List State
states_of st [] = st ∷ []
states_of st (move ∷ moves) = st ∷ states_of (state_after st move) moves

-- the state at moment k, before which k of the moves were made
abbrev pub state_at : State → List Move → ℕ → State
state_at start moves k = last_of start (take k moves)

-- how many of the moves are steps
unfoldable pub steps_in : List Move → ℕ
steps_in [] = 0
steps_in (StepOf hart ∷ moves) = steps_in moves + 1
steps_in (LinesOf hart mask ∷ moves) = steps_in moves

-- before each step the machine that its hart runs, if any, is on one of the pages of the storage
abbrev pub IsMoveInside : State → Move → Type 0
IsMoveInside st (StepOf hart) = IsNextInside st hart
IsMoveInside st (LinesOf hart mask) = Unit {0}

-- the same over some moves
unfoldable pub StaysInside : State → List Move → Type 0
StaysInside st [] = Unit {0}
StaysInside st (move ∷ moves) = IsMoveInside st move × StaysInside (state_after st move) moves

-- the state at each moment is that item of the run
abbrev pub MomentLaw : Type 0
MomentLaw =
    (start : State) (moves : List Move) (k : ℕ)
    → k ≤ length moves
    → slice_get (states_of start moves) k ≡ Some (state_at start moves k)
