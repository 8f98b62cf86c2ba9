-- The moments of a run.
use Rattle.std.proofs.Common.{◌≡◌, ℕ, zero, suc, ◌+◌, List, [], ◌∷◌, ◌++◌, length, take, Some, refl, ap, subst, ◌∙◌, arith, slice_get}
use Rattle.std.proofs.lemmas.Option.{same_Some}
use Rattle.hv_nest.specs.State.{State}
use Rattle.hv_nest.specs.Move.{Move, StepOf, LinesOf, state_after, last_of}
use Rattle.hv_whole.specs.Whole.{AreMasked}
use Rattle.hv_whole.proofs.Lengths.{move_long}
use Rattle.hv_run.specs.Run.{states_of, state_at, steps_in, IsMoveInside, StaysInside, MomentLaw}

pub moments : MomentLaw
unfolding states_of last_of
moments start [] zero le = refl
moments start [] (suc k) le = absurd (omega (arith, le))
moments start (move ∷ moves) zero le = refl
moments start (move ∷ moves) (suc k) le = moments (state_after start move) moves k (omega (arith, le))

-- the first of some moves can be made where all can
pub first_masked : (moves : List Move) (k : ℕ) → AreMasked moves → AreMasked (take k moves)
first_masked moves zero masked = tt
first_masked [] (suc k) masked = tt
first_masked (move ∷ moves) (suc k) masked = (masked.0, first_masked moves k masked.1)

-- a move of a run stays inside
pub inside_at : (start : State) (moves : List Move) (k : ℕ) (move : Move) → StaysInside start moves → slice_get moves k ≡ Some move → IsMoveInside (state_at start moves k) move
unfolding StaysInside last_of
inside_at start [] k move all at = cc
inside_at start (m ∷ moves) zero move all at = subst (IsMoveInside start) (same_Some m move at) all.0
inside_at start (m ∷ moves) (suc k) move all at = inside_at (state_after start m) moves k move all.1 at

-- one step more, and one change of lines more
pub steps_step : (moves : List Move) (hart : ℕ) → steps_in (moves ++ StepOf hart ∷ []) ≡ steps_in moves + 1
unfolding steps_in
steps_step [] hart = refl
steps_step (StepOf h ∷ moves) hart = ap (λ (n : ℕ). n + 1) (steps_step moves hart)
steps_step (LinesOf h mask ∷ moves) hart = steps_step moves hart

pub steps_lines : (moves : List Move) (hart mask : ℕ) → steps_in (moves ++ LinesOf hart mask ∷ []) ≡ steps_in moves
unfolding steps_in
steps_lines [] hart mask = refl
steps_lines (StepOf h ∷ moves) hart mask = ap (λ (n : ℕ). n + 1) (steps_lines moves hart mask)
steps_lines (LinesOf h m ∷ moves) hart mask = steps_lines moves hart mask

-- the harts stay as many
pub run_harts : (start : State) (moves : List Move) → length (last_of start moves).harts ≡ length start.harts
unfolding last_of
run_harts start [] = refl
run_harts start (move ∷ moves) = run_harts (state_after start move) moves ∙ (move_long start move).harts
