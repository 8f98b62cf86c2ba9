-- What is written for a text: what is answered for its job and for the start that the job is built to, or the refusal of
-- the first line that is refused, in the text or else when the job is built.
use Rattle.std.specs.Prelude.{ℕ, ◌+◌, List, Result, Ok, Err}
use Rattle.hv_job.specs.JobOf.{job_of}
use Rattle.hv_job.specs.declared.job.Job.{Job}
use Rattle.hv_line.specs.declared.kinds.JobKind.{JobKind}
use Rattle.hv_line.specs.Kinds.{kind_word}
use Rattle.hv_load.specs.Build.{build_of}
use Rattle.hv_load.specs.declared.ends.BuildKind.{BuildKind}
use Rattle.hv_load.specs.Kinds.{kind_word as build_word}
use Rattle.hv_load.specs.declared.start.Start.{Start}
use Rattle.hv_top.specs.Output.{Output, Text, refusal}

-- the answer for a built job, or the line that refuses it; so many lines stand before the job's own
abbrev pub built_answer : (before : ℕ) → (Job → Start → Output) → Job → Result Start (ℕ × BuildKind) → Output
built_answer before answer job (Ok start) = answer job start
built_answer before answer job (Err (number, kind)) = refusal (before + number) (build_word kind)

-- the answer for a job and its start, or the refusal of the first line that can't be built
abbrev pub started_answer : (before : ℕ) → (Job → Start → Output) → Job → Output
started_answer before answer job = built_answer before answer job (build_of job)

-- the answer for a text's job, or the line that refuses the text
abbrev pub parsed_answer : (before : ℕ) → (Job → Start → Output) → Result Job (ℕ × JobKind) → Output
parsed_answer before answer (Ok job) = started_answer before answer job
parsed_answer before answer (Err (number, kind)) = refusal (before + number) (kind_word kind)

-- the same of the job that a text is, which stands behind so many lines
abbrev pub answer_behind : (before : ℕ) → (Job → Start → Output) → List ℕ → Output
answer_behind before answer text = parsed_answer before answer (job_of text)

-- the same of a text that has the job alone
abbrev pub answered_output : (Job → Start → Output) → List ℕ → Output
answered_output answer text = answer_behind 0 answer text

-- the answer is a text, whatever the job and its start are
abbrev pub told_answer : (Job → Start → List ℕ) → Job → Start → Output
told_answer tell job start = Text (tell job start)

-- what is told of a job and its start, or the refusal of the first line that can't be built
abbrev pub started_output : (Job → Start → List ℕ) → Job → Output
started_output tell job = started_answer 0 (told_answer tell) job

-- what is told of the job that a text is and of its start, or the refusal of the first line for which there is none
abbrev pub told_output : (Job → Start → List ℕ) → List ℕ → Output
told_output tell text = answered_output (told_answer tell) text
