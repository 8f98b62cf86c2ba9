-- The job of a number, which is built and played, and the summary of it.
use Rattle.std.specs.Prelude.{ℕ, ◌%◌, List}
use Rattle.hv_job.specs.declared.job.Job.{Job}
use Rattle.hv_load.specs.Generator.{depths, gen_job_of}
use Rattle.hv_load.specs.declared.start.Start.{Start}
use Rattle.hv_nest.specs.Move.{Move, last_of}
use Rattle.hv_report.specs.Summary.{summary_of}
use Rattle.hv_run.specs.Record.{schedule}
use Rattle.hv_top.specs.Jobs.{started_output}
use Rattle.hv_top.specs.Output.{Output}
use Rattle.hv_top.specs.Run.{state_of, record_on}

-- the summary of a start that is played by these moves
abbrev pub summary_on_moves : (number : ℕ) → List Move → Start → List ℕ
summary_on_moves number moves start =
    summary_of number (number % depths) (record_on moves start) (last_of (state_of start) moves)

-- the summary of the start of a job, which is played to the end of the job's schedule
abbrev pub summary_on : (number : ℕ) → Job → Start → List ℕ
summary_on number job start = summary_on_moves number (schedule job.recording) start

-- what `gen` writes: the summary of the job of a number
unfoldable pub gen_output : (number : ℕ) → Output
gen_output number = started_output (summary_on number) (gen_job_of number)
