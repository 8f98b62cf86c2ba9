-- Playing a schedule step by step, as a debugger does: each step with the changes of lines that come right before it.
use Rattle.std.specs.Prelude.{ℕ, zero, suc, Bool, true, false, not, ◌&&◌, ◌==◌, if◌then◌else◌, bytes_eq, List, []}
use Rattle.std.specs.Prelude.{◌∷◌, ◌++◌, count_by, Option, Some, None, slice_get}
use Rattle.std.specs.List.{list_any}
use Rattle.hv_word.specs.Storage.{word_at}
use Rattle.hv_cpu.specs.Regs.{Regs}
use Rattle.hv_map.specs.Item.{Item}
use Rattle.hv_map.specs.Chain.{pin_of}
use Rattle.hv_map.specs.Links.{last_block}
use Rattle.hv_nest.specs.State.{State}
use Rattle.hv_nest.specs.Move.{Move, StepOf, LinesOf, last_of, running_of}
use Rattle.hv_debug.specs.declared.stop.Break.{Break}
use Rattle.hv_debug.specs.declared.stop.Stop.{Stop}
use Rattle.hv_debug.specs.declared.stop.Stop.TheVariants.{Done, AtBreak, AtEnd}

-- how far a schedule is played: the moves that were made, and those that are left
pub record Reached : Type 0 where
  pub played : List Move
  pub rest : List Move

-- a move that is a step
abbrev pub is_step : Move → Bool
is_step (StepOf hart) = true
is_step (LinesOf hart mask) = false

-- how many steps were made; changes of lines don't count
abbrev pub steps_of : Reached → ℕ
steps_of r = count_by is_step r.played

-- the hart of the next step, if one is left
abbrev pub next_hart : List Move → Option ℕ
next_hart [] = None
next_hart (StepOf hart ∷ moves) = Some hart
next_hart (LinesOf hart mask ∷ moves) = next_hart moves

-- the changes of lines before the next step
abbrev pub lines_before : List Move → List Move
lines_before [] = []
lines_before (StepOf hart ∷ moves) = []
lines_before (LinesOf hart mask ∷ moves) = LinesOf hart mask ∷ lines_before moves

-- the moves up to the next step, with it
abbrev pub through_step : List Move → List Move
through_step [] = []
through_step (StepOf hart ∷ moves) = StepOf hart ∷ []
through_step (LinesOf hart mask ∷ moves) = LinesOf hart mask ∷ through_step moves

-- the moves behind the next step
abbrev pub behind_step : List Move → List Move
behind_step [] = []
behind_step (StepOf hart ∷ moves) = moves
behind_step (LinesOf hart mask ∷ moves) = behind_step moves

-- the next step is made, with the changes of lines before it
abbrev pub after_step : Reached → Reached
after_step r = record { played = r.played ++ through_step r.rest; rest = behind_step r.rest }

-- the program counter of a hart
abbrev pub counter_of : Option Regs → ℕ
counter_of None = 0
counter_of (Some r) = r.pc

-- the program counter of a machine: of the hart for the bare machine, else in word 0 of its control block
abbrev pub counter_in : State → ℕ → Option ℕ → ℕ
counter_in st hart None = counter_of (slice_get st.harts hart)
counter_in st hart (Some g) = word_at st.storage g 0

-- whether a machine is there and is at this address
abbrev pub has_counter : State → ℕ → ℕ → Option (List Item) → Bool
has_counter st hart pc None = false
has_counter st hart pc (Some items) = counter_in st hart (last_block items) == pc

-- whether a hart runs the machine of a breakpoint, and that machine is at its address
abbrev pub is_at : State → ℕ → Break → Bool
is_at st hart stop =
    bytes_eq stop.path (running_of st hart) && has_counter st hart stop.at (pin_of st.storage stop.path)

-- whether one of the breakpoints is there
abbrev pub is_stopped : State → List Break → ℕ → Bool
is_stopped st breaks hart = list_any (is_at st hart) breaks

-- whether one stops before the next step, which is one of this hart, by the state right before it
abbrev pub stops : State → List Break → Reached → ℕ → Bool
stops start breaks r hart = is_stopped (last_of start (r.played ++ lines_before r.rest)) breaks hart

-- how far the steps of a command came, and why they ended there
pub record Halted : Type 0 where
  pub reached : Reached
  pub stop : Stop

-- One step and then more, unless none is left or a breakpoint stops before it and the changes of lines that come right
-- before it. The first step of a command isn't stopped.
abbrev pub step_on : (Reached → Halted) → State → List Break → Bool → Reached → Option ℕ → Halted
step_on more start breaks first r None = record { reached = r; stop = AtEnd }
step_on more start breaks first r (Some hart) =
    if not first && stops start breaks r hart then record { reached = r; stop = AtBreak }
    else more (after_step r)

-- so many steps from there on, where all was played from a start
unfoldable pub steps_from : State → List Break → Bool → ℕ → Reached → Halted
steps_from start breaks first zero r = record { reached = r; stop = Done }
steps_from start breaks first (suc n) r =
    step_on (steps_from start breaks false n) start breaks first r (next_hart r.rest)
