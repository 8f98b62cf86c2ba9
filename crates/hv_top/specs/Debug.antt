-- A job that is built, and what a debugger writes over its commands.
use Rattle.std.specs.Prelude.{ℕ, List}
use Rattle.hv_debug.specs.Transcript.{transcript_of}
use Rattle.hv_job.specs.declared.job.Job.{Job}
use Rattle.hv_load.specs.declared.start.Start.{Start}
use Rattle.hv_top.specs.Jobs.{told_output}
use Rattle.hv_top.specs.Output.{Output}
use Rattle.hv_top.specs.Run.{state_of}

-- what the debugger writes over the commands of a job from its start
abbrev pub transcript_on : Job → Start → List ℕ
transcript_on job start = transcript_of (state_of start) job start.plan

-- what `debug` writes for a text
unfoldable pub debug_output : List ℕ → Output
debug_output text = told_output transcript_on text
