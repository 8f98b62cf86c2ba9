-- What holds of the job of a text: the values are in their ranges, and the limits are kept.
use Rattle.std.specs.Prelude.{◌≡◌, ℕ, ◌≤◌, Bool, true, false, List, length, map, All, count_by, filter_map, Option}
use Rattle.std.specs.Prelude.{Some, None}
use Rattle.hv_irq.specs.declared.Event.{Event}
use Rattle.hv_irq.specs.declared.Event.TheVariants as event
use Rattle.hv_line.specs.JobLimits.{job_breaks, job_commands, job_harts}
use Rattle.hv_line.specs.Ranges.{IsCommand, IsRanged, IsSize}
use Rattle.hv_line.specs.declared.types.DebugCommand.{DebugCommand}
use Rattle.hv_line.specs.declared.types.DebugCommand.TheVariants as command
use Rattle.hv_line.specs.declared.types.Directive.{Directive}
use Rattle.hv_line.specs.declared.types.Directive.TheVariants as directive
use Rattle.hv_job.specs.Limited.{amount_of, limit_of}
use Rattle.hv_job.specs.declared.job.DebugLine.{DebugLine}
use Rattle.hv_job.specs.declared.job.Job.{Job}
use Rattle.hv_job.specs.declared.job.Placed.{Placed}
use Rattle.hv_job.specs.declared.limited.Limited.{Limited}

-- an event without its number: a turn of this hart, or a change of its lines
pub data Happening : Type 0 where
  TurnOf : ℕ → Happening
  LinesOf : ℕ → Happening

-- an event without its count or its lines
abbrev pub happening_of : Event → Happening
happening_of (event.Turn hart count) = TurnOf hart
happening_of (event.Lines hart mask) = LinesOf hart

-- the event that a directive has, if it has one
abbrev pub event_in : Directive → Option Happening
event_in (directive.Turn hart) = Some (TurnOf hart)
event_in (directive.Lines hart) = Some (LinesOf hart)
event_in _ = None

-- the same of a directive with its line
abbrev pub event_of : Placed → Option Happening
event_of placed = event_in placed.what

-- whether a command sets a breakpoint
abbrev pub is_break : DebugCommand → Bool
is_break (command.Break name at) = true
is_break _ = false

-- how many of these commands are breakpoints
abbrev pub breaks_in : List DebugLine → ℕ
breaks_in commands = count_by (λ line. is_break line.what) commands

-- the directives are in their ranges, the events are those of the lines in order, and the limits are kept
pub record IsJob (job : Job) : Type 0 where
  pub pages : IsSize job.pages
  pub harts : (1 ≤ job.harts) × (job.harts ≤ job_harts)
  pub lines : All (λ placed. IsRanged placed.what) job.lines
  pub events : map happening_of job.recording ≡ filter_map event_of job.lines
  pub limits : (of : Limited) → amount_of of job.lines ≤ limit_of of
  pub commands : All (λ line. IsCommand line.what) job.commands
  pub commanded : length job.commands ≤ job_commands
  pub breaks : breaks_in job.commands ≤ job_breaks
