-- What a debugger writes over the commands of a job, as bytes: each command behind `> `, and below it what it answers.
use Rattle.std.specs.Prelude.{◌≡◌, ℕ, true, take, List, [], ◌∷◌, ◌++◌, fold, Option, Some, None, codes}
use Rattle.hv_irq.specs.declared.Event.{Event}
use Rattle.hv_line.specs.declared.types.DebugCommand.{DebugCommand}
use Rattle.hv_line.specs.declared.types.DebugCommand.TheVariants as command
use Rattle.hv_job.specs.declared.job.DebugLine.{DebugLine}
use Rattle.hv_job.specs.declared.job.Job.{Job}
use Rattle.hv_load.specs.declared.start.Named.{Named}
use Rattle.hv_load.specs.declared.start.Plan.{Plan}
use Rattle.hv_nest.specs.State.{State}
use Rattle.hv_nest.specs.Move.{Move, last_of}
use Rattle.hv_report.specs.Report.{faults_text, hart_text}
use Rattle.hv_run.specs.Record.{record_of, schedule}
use Rattle.hv_text.specs.Text.{line}
use Rattle.hv_debug.specs.declared.stop.Break.{Break}
use Rattle.hv_debug.specs.Answers.{halt_line, echo_line, map_text, mem_text, path_named, regs_text}
use Rattle.hv_debug.specs.Playing.{Halted, Reached, steps_from, steps_of}

-- what the debugger has come to: how far the schedule is played, the breakpoints, and what was written
pub record Session : Type 0 where
  pub reached : Reached
  pub breaks : List Break
  pub text : List ℕ

-- the state that it has come to from a start
abbrev pub state_at : State → Session → State
state_at start s = last_of start s.reached.played

-- more text is written
abbrev pub with_text : Session → List ℕ → Session
with_text s text = record s { text = s.text ++ text }

-- where the steps of a command ended is told
abbrev pub after_halt : Session → Halted → Session
after_halt s h = with_text (record s { reached = h.reached }) (halt_line (steps_of h.reached) h.stop)

-- the steps of a command are made from where the session is
abbrev pub after_steps : ℕ → State → Session → Session
after_steps count start s = after_halt s (steps_from start s.breaks true count s.reached)

-- one more breakpoint, where there is such a machine
abbrev pub more_breaks : List Break → Option (List ℕ) → ℕ → List Break
more_breaks breaks None at = breaks
more_breaks breaks (Some path) at = breaks ++ record { path = path; at = at } ∷ []

-- what a command does and answers, where all was played from a start and the machines have these names
abbrev pub after_command : State → List Named → Session → DebugCommand → Session
after_command start names s (command.Step count) = after_steps count start s
after_command start names s (command.Break name at) =
    with_text (record s { breaks = more_breaks s.breaks (path_named name names) at }) (line (codes "ok"))
after_command start names s (command.Regs name) = with_text s (regs_text (state_at start s) name names)
after_command start names s (command.Mem name at) = with_text s (mem_text (state_at start s).storage name at names)
after_command start names s (command.Path hart) = with_text s (hart_text (state_at start s) hart)
after_command start names s (command.Map name page) = with_text s (map_text (state_at start s).storage name page names)
after_command start names s command.Faults = with_text s (faults_text (record_of start s.reached.played []).kept)

-- a line: its words are told, and its command is done
abbrev pub after_line : State → List Named → Session → DebugLine → Session
after_line start names s l = after_command start names (with_text s (echo_line l.words)) l.what

-- nothing was played yet
abbrev pub session_before : List Event → Session
session_before events = record { reached = record { played = []; rest = schedule events }; breaks = []; text = [] }

-- what the debugger comes to over these commands
abbrev pub session_of : State → List Event → List Named → List DebugLine → Session
session_of start events names lines = fold (after_line start names) (session_before events) lines

-- all that it writes
unfoldable pub transcript_of : State → Job → Plan → List ℕ
transcript_of start job plan = (session_of start job.recording plan.names job.commands).text

-- the state that it leaves
unfoldable pub last_state_of : State → Job → Plan → State
last_state_of start job plan = state_at start (session_of start job.recording plan.names job.commands)

-- a state that so many moves of a schedule lead to
abbrev pub IsOnWay : State → List Move → State → Type 0
IsOnWay start moves st = (k : ℕ) × (st ≡ last_of start (take k moves))
