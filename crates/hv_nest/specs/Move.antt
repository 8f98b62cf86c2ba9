-- What happens to the state of the bare machine: a step of one hart, or a change of one hart's lines.
use Rattle.std.specs.Prelude.{ℕ, List, [], ◌∷◌, Option, Some, None, slice_get, slice_set}
use Rattle.hv_cpu.specs.Regs.{Regs}
use Rattle.hv_cpu.specs.Lines.{lined_of}
use Rattle.hv_map.specs.Chain.{running_path}
use Rattle.hv_nest.specs.declared.outcome.StepKind.{StepKind}
use Rattle.hv_nest.specs.declared.outcome.StepKind.TheVariants.{Worked as WorkedKind, Recall, Fault}
use Rattle.hv_nest.specs.State.{State}
use Rattle.hv_nest.specs.Step.{Stepped, Worked, Recalled, Faulted, Barred, host_step_of}

-- a move
pub data Move : Type 0 where
  StepOf : (hart : ℕ) → Move
  LinesOf : (hart mask : ℕ) → Move

-- a step's kind, and the state after it
pub record Moved : Type 0 where
  pub kind : StepKind
  pub state : State

-- the registers of one hart replaced
abbrev pub with_hart : State → List ℕ → ℕ → Regs → State
with_hart st S hart r = record { storage = S; harts = slice_set st.harts hart r }

-- level 0 refuses nothing, so no refusal passes the bare machine
abbrev pub moved_by : State → ℕ → Stepped → Moved
moved_by st hart (Worked S r) = record { kind = WorkedKind; state = with_hart st S hart r }
moved_by st hart (Recalled l S r) = record { kind = Recall l; state = with_hart st S hart r }
moved_by st hart (Faulted l c address a S r) = record { kind = Fault l c address a; state = with_hart st S hart r }
moved_by st hart (Barred e) = record { kind = WorkedKind; state = st }

-- the same for a hart with the registers r, or for none: then nothing changes
abbrev pub moved_at : State → ℕ → Option Regs → Moved
moved_at st hart None = record { kind = WorkedKind; state = st }
moved_at st hart (Some r) = moved_by st hart (host_step_of st.storage hart r)

-- one step of a hart
abbrev pub moved_of : State → ℕ → Moved
moved_of st hart = moved_at st hart (slice_get st.harts hart)

-- the same for a hart with the registers r, or for none
abbrev pub lined_at : State → ℕ → ℕ → Option Regs → State
lined_at st hart mask None = st
lined_at st hart mask (Some r) = with_hart st st.storage hart (lined_of r mask)

-- one change of a hart's lines
abbrev pub lined_state : State → ℕ → ℕ → State
lined_state st hart mask = lined_at st hart mask (slice_get st.harts hart)

-- the state after a move
abbrev pub state_after : State → Move → State
state_after st (StepOf hart) = (moved_of st hart).state
state_after st (LinesOf hart mask) = lined_state st hart mask

-- the state after a list of moves
unfoldable pub last_of : State → List Move → State
last_of st [] = st
last_of st (move ∷ moves) = last_of (state_after st move) moves

-- the running path of a hart with the registers r; none where there is no such hart
abbrev pub running_at : List ℕ → Option Regs → List ℕ
running_at S None = []
running_at S (Some r) = running_path S r

-- the path of the machine that a hart runs
abbrev pub running_of : State → ℕ → List ℕ
running_of st hart = running_at st.storage (slice_get st.harts hart)
