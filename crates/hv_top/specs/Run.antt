-- A job that is built and played, and the report on it.
use Rattle.std.specs.Prelude.{ℕ, List, Result, Ok, Err}
use Rattle.hv_job.specs.JobOf.{job_of}
use Rattle.hv_job.specs.declared.job.Job.{Job}
use Rattle.hv_line.specs.declared.kinds.JobKind.{JobKind}
use Rattle.hv_load.specs.Build.{build_of}
use Rattle.hv_load.specs.declared.ends.BuildKind.{BuildKind}
use Rattle.hv_load.specs.declared.start.Plan.{Plan}
use Rattle.hv_load.specs.declared.start.Start.{Start}
use Rattle.hv_nest.specs.State.{State}
use Rattle.hv_nest.specs.Move.{Move, last_of}
use Rattle.hv_report.specs.Report.{report_of}
use Rattle.hv_run.specs.Promises.{AreBareRuns, FaultsAreRouted}
use Rattle.hv_run.specs.Record.{PlayRecord, record_of, schedule}
use Rattle.hv_run.specs.Stands.{watches_of}
use Rattle.hv_top.specs.Jobs.{told_output}
use Rattle.hv_top.specs.Output.{Output}
use Rattle.hv_top.specs.Shown.{AreShown}

-- the state of the bare machine at a start
abbrev pub state_of : Start → State
state_of start = record { storage = start.store; harts = start.harts }

-- the start whose state and plan these are
abbrev pub start_at : State → Plan → Start
start_at state plan = record { store = state.storage; harts = state.harts; plan = plan }

-- what a play of these moves from a start tells
abbrev pub record_on : List Move → Start → PlayRecord
record_on moves start = record_of (state_of start) moves (watches_of start.plan.watches)

-- the report on the start of a job, which is played to the end of the job's schedule
abbrev pub report_on : Job → Start → List ℕ
report_on job start =
    report_of (record_on (schedule job.recording) start) start.plan (last_of (state_of start) (schedule job.recording))

-- what `run` writes for a text
unfoldable pub run_output : List ℕ → Output
run_output text = told_output report_on text

-- What is promised of a start that is played by these moves: a watched machine that stands apart at the start is at
-- each moment, up to the first touch, a bare machine that runs alone, and the program shows it; and each fault of the
-- play reached the first level that refuses.
pub record PlayIsPromised (moves : List Move) (start : Start) : Type 0 where
  pub guests : AreBareRuns (state_of start) moves (watches_of start.plan.watches)
  pub shown : AreShown (state_of start) moves (watches_of start.plan.watches)
  pub routed : FaultsAreRouted (state_of start) moves

-- the same of a start; nothing is promised where there is none
abbrev pub StartIsPromised : List Move → Result Start (ℕ × BuildKind) → Type 0
StartIsPromised moves (Ok start) = PlayIsPromised moves start
StartIsPromised moves (Err refusal) = Unit {0}

-- the same of a job, if it can be built
unfoldable pub JobIsPromised : Job → Type 0
JobIsPromised job = StartIsPromised (schedule job.recording) (build_of job)

-- the same of what a text is read to
abbrev pub ParsedIsPromised : Result Job (ℕ × JobKind) → Type 0
ParsedIsPromised (Ok job) = JobIsPromised job
ParsedIsPromised (Err refusal) = Unit {0}

-- the same of a text, if it is a job
unfoldable pub TextIsPromised : List ℕ → Type 0
TextIsPromised text = ParsedIsPromised (job_of text)
