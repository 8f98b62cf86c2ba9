-- A job that is built and played, and the bare machines beside its watched ones.
use Rattle.std.specs.Prelude.{◌≡◌, ℕ, ◌<◌, ◌≤◌, All, List, [], length, Option, Some, None, Result, Ok, Err, bit_and}
use Rattle.hv_limits.specs.Limits.{lines_mask, steps_limit}
use Rattle.hv_job.specs.declared.job.Job.{Job}
use Rattle.hv_load.specs.Build.{build_of}
use Rattle.hv_load.specs.declared.ends.BuildKind.{BuildKind}
use Rattle.hv_load.specs.declared.start.Start.{Start}
use Rattle.hv_map.specs.Item.{Item}
use Rattle.hv_map.specs.Chain.{IsThere, pin_of}
use Rattle.hv_nest.specs.State.{State}
use Rattle.hv_nest.specs.Watched.{last_block}
use Rattle.hv_report.specs.Check.{check_of}
use Rattle.hv_run.specs.Record.{WatchRecord, schedule}
use Rattle.hv_twin.specs.Twin.{NeverFalls}
use Rattle.hv_top.specs.Jobs.{told_output}
use Rattle.hv_top.specs.Output.{Output}
use Rattle.hv_top.specs.Run.{state_of, record_on}

-- the text about the watches of the start of a job, which is played to the end of the job's schedule
abbrev pub check_on : Job → Start → List ℕ
check_on job start = check_of (state_of start) (record_on (schedule job.recording) start)

-- what `check` writes for a text
unfoldable pub check_output : List ℕ → Output
check_output text = told_output check_on text

-- the state at the start of a job; nothing where it can't be built
abbrev pub built_state : Result Start (ℕ × BuildKind) → State
built_state (Ok start) = state_of start
built_state (Err end) = record { storage = []; harts = [] }

-- the same of a job, as it is built
unfoldable pub start_state : Job → State
start_state job = built_state (build_of job)

-- the machine is there, its block is in the bare page that is told, and it has no more pages than can be watched
abbrev pub IsMachine : List ℕ → Option ℕ → Option (List Item) → Type 0
IsMachine S block None = ⊥
IsMachine S block (Some items) = (block ≡ last_block items) × IsThere S (Some items)

-- what always holds of what is told of a watch
pub record IsRow (start : State) (w : WatchRecord) : Type 0 where
  pub hart : w.hart < length start.harts
  pub machine : IsMachine start.storage w.block (pin_of start.storage w.path)
  pub steps : w.count ≤ steps_limit
  pub counts : NeverFalls w.lines
  pub bits : All (λ line. bit_and line.bits lines_mask ≡ line.bits) w.lines
