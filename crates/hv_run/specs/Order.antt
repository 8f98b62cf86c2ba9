-- A change of one hart's lines and a step of another hart, in either order.
use Rattle.std.specs.Prelude.{◌≡◌, ◌≢◌, ℕ, [], ◌∷◌}
use Rattle.hv_nest.specs.declared.outcome.Outcome.{Outcome}
use Rattle.hv_nest.specs.State.{State}
use Rattle.hv_nest.specs.Move.{StepOf, LinesOf, moved_of, state_after, last_of}
use Rattle.hv_nest.specs.Changes.{differences}

-- the outcome of a hart's step: its kind, and the words that it changes
abbrev pub outcome_of : State → ℕ → Outcome
outcome_of st hart = record {
  kind = (moved_of st hart).kind;
  changed = differences st.storage (moved_of st hart).state.storage;
}

-- The step has the same outcome before the change of lines and after it, and both lead to the same state in either
-- order.
pub record Commute (st : State) (stepping lined mask : ℕ) : Type 0 where
  pub outcome : outcome_of (state_after st (LinesOf lined mask)) stepping ≡ outcome_of st stepping
  pub state :
      last_of st (LinesOf lined mask ∷ StepOf stepping ∷ []) ≡ last_of st (StepOf stepping ∷ LinesOf lined mask ∷ [])

-- lines of one hart and steps of another commute, whatever the state
abbrev pub OrderLaw : Type 0
OrderLaw = (st : State) (stepping lined mask : ℕ) → stepping ≢ lined → Commute st stepping lined mask
