-- What the reading of a text answers, beside its job.
use Rattle.std.specs.Prelude.{◌≡◌, ℕ, ◌+◌, ◌^◌, ◌<◌, List, Result, Ok, Err}
use Rattle.hv_asm.specs.declared.AsmEnd.{AsmEnd}
use Rattle.hv_asm.specs.declared.AsmEnd.TheVariants as asm
use Rattle.hv_line.specs.Answers.{LineRefuses}
use Rattle.hv_line.specs.declared.kinds.JobKind.{JobKind}
use Rattle.hv_line.specs.declared.kinds.JobLineEnd.{JobLineEnd}
use Rattle.hv_line.specs.declared.kinds.JobLineEnd.TheVariants as line
use Rattle.hv_job.specs.JobOf.{ReadJob, asm_kind}
use Rattle.hv_job.specs.declared.draft.Draft.{Draft}
use Rattle.hv_job.specs.declared.ends.JobEnd.{JobEnd}
use Rattle.hv_job.specs.declared.ends.JobEnd.TheVariants.{JobFault, Memory}
use Rattle.hv_job.specs.declared.images.Rest.{Rest}
use Rattle.hv_job.specs.declared.job.DebugLine.{DebugLine}
use Rattle.hv_job.specs.declared.job.Job.{Job}

-- a refusal is the one that the text has; memory may be wanting whatever it has
abbrev pub Refuses : {A : Type 0} → JobEnd → Result A (ℕ × JobKind) → Type 0
Refuses (JobFault line kind) text = text ≡ Err (line, kind)
Refuses Memory text = Unit {0}

-- the job is the one that the text has
abbrev pub GivesJob : Result Job JobEnd → ReadJob → Type 0
GivesJob (Ok job) text = text ≡ Ok job
GivesJob (Err end) text = Refuses end text

-- the same of the commands behind the directives
abbrev pub GivesCommands : Result (List DebugLine) JobEnd → Result (List DebugLine) (ℕ × JobKind) → Type 0
GivesCommands (Ok commands) text = text ≡ Ok commands
GivesCommands (Err end) text = Refuses end text

-- what is made is the new value
abbrev pub Makes : {A : Type 0} → Result (Unit {0}) JobLineEnd → Result A JobKind → A → Type 0
Makes (Ok done) made new = made ≡ Ok new
Makes (Err end) made new = LineRefuses end made

-- the draft is the one that is made
abbrev pub GivesDraft : {A : Type 0} → Result A JobEnd → Result Draft (ℕ × JobKind) → Draft → Type 0
GivesDraft (Ok rest) made new = made ≡ Ok new
GivesDraft (Err end) made new = Refuses end made

-- why a text has no job, from why a line asks for nothing
abbrev pub end_at : JobLineEnd → ℕ → JobEnd
end_at (line.Fault kind) number = JobFault number kind
end_at line.Memory number = Memory

-- why a text has no job, from why the text of an image that begins on a line has no words
abbrev pub end_inside : AsmEnd → ℕ → JobEnd
end_inside (asm.AsmFault line kind) number = JobFault (number + line) (asm_kind kind)
end_inside asm.Memory number = Memory

-- its number is one of a line
abbrev pub FitsBehind : AsmEnd → ℕ → Type 0
FitsBehind (asm.AsmFault line kind) number = number + line < 2 ^ 32
FitsBehind asm.Memory number = Unit {0}

-- a place of a text, from which on it has the same job
abbrev pub LeadsTo : {A : Type 0} → Result A JobEnd → ReadJob → (A → ReadJob) → Type 0
LeadsTo (Ok place) text next = text ≡ next place
LeadsTo (Err end) text next = Refuses end text

-- behind a line that was done the next line follows
abbrev pub ContinuesAt : Result Rest JobEnd → Result (Unit {0}) JobLineEnd → ℕ → List ℕ → Type 0
ContinuesAt (Ok rest) (Ok done) number behind = (rest.text.now ≡ behind) × (rest.number ≡ number + 1)
ContinuesAt (Err given) (Err end) number behind = given ≡ end_at end number
ContinuesAt _ _ number behind = ⊥
