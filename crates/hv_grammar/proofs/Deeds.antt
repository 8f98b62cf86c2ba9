-- What a line does to what the lines so far have told, by its form.
use Rattle.std.specs.Prelude.{ℕ, List, Result}
use Rattle.hv_job.specs.JobOf.{draft_with, job_in}
use Rattle.hv_line.specs.declared.kinds.JobKind.{JobKind}
use Rattle.hv_grammar.specs.Forms.{Form, states_for}

-- what a function takes
abbrev pub domain_of {ℓ κ} : {A : Type ℓ} {B : Type κ} → (A → B) → Type ℓ
domain_of {A = A} f = A

-- what the lines so far have told
abbrev pub Draft : Type 0
Draft = domain_of job_in

abbrev pub does : Draft → ℕ → List (List ℕ) → Form → Result Draft (ℕ × JobKind)
does draft number behind form = draft_with draft number behind (states_for form)
