-- What a text is opened to.
use Rattle.std.specs.Prelude.{◌≡◌, ℕ, List, Ok}
use Rattle.hv_job.specs.IsJob.{IsJob}
use Rattle.hv_job.specs.JobOf.{job_of}
use Rattle.hv_job.specs.declared.job.Job.{Job}
use Rattle.hv_load.specs.Build.{build_of}
use Rattle.hv_load.specs.Ready.{IsReady}
use Rattle.hv_load.specs.declared.start.Start.{Start}
use Rattle.hv_top.specs.declared.answer.Answer.{Answer}
use Rattle.hv_top.specs.declared.opening.Opening.{Opening}
use Rattle.hv_top.specs.declared.opening.Opening.TheVariants.{Ready, Refused}
use Rattle.hv_top.specs.Answer.{output_in}
use Rattle.hv_top.specs.Jobs.{answer_behind, started_answer}
use Rattle.hv_top.specs.Output.{Output}
use Rattle.hv_top.specs.Run.{JobIsPromised, TextIsPromised}

-- the job is built to this start
pub record IsBuilt (job : Job) (start : Start) : Type 0 where
  pub limits : IsJob job
  pub built : build_of job ≡ Ok start
  pub ready : IsReady job start

-- this answer is what is written, whatever is answered for a job and its start
abbrev pub IsWritten : Answer → ((Job → Start → Output) → Output) → Type 0
IsWritten answer output = (answering : Job → Start → Output) → output_in answer ≡ output answering

-- the job with its start; or the refusal of it, for which there is nothing to promise; so many lines stand before it
abbrev pub IsStarting : (before : ℕ) → Job → Opening → Type 0
IsStarting before job (Ready own start) = (own ≡ job) × IsBuilt job start
IsStarting before job (Refused answer) =
    IsWritten answer (λ answering. started_answer before answering job) × JobIsPromised job

-- the job that a text is with its start; or the refusal of the text, for which there is nothing to promise; so many lines
-- stand before the text
abbrev pub IsOpening : (before : ℕ) → List ℕ → Opening → Type 0
IsOpening before text (Ready job start) = (job_of text ≡ Ok job) × IsBuilt job start
IsOpening before text (Refused answer) =
    IsWritten answer (λ answering. answer_behind before answering text) × TextIsPromised text
