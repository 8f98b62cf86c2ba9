-- A step as the code tells it.
use Rattle.std.specs.Prelude.{◌≢◌, ◌<◌, ℕ, List, Result, Ok, Err}
use Rattle.hv_cpu.specs.Regs.{Regs}
use Rattle.hv_store.specs.declared.access.Refusal.{Refusal}
use Rattle.hv_nest.specs.declared.outcome.StepKind.{StepKind}
use Rattle.hv_nest.specs.declared.outcome.StepKind.TheVariants.{Worked as WorkedKind, Recall, Fault}
use Rattle.hv_nest.specs.Step.{Stepped, Worked, Recalled, Faulted, Barred}

-- a kind, a storage and registers as the definition of the step tells them
abbrev pub step_as : StepKind → List ℕ → Regs → Stepped
step_as WorkedKind S r = Worked S r
step_as (Recall l) S r = Recalled l S r
step_as (Fault l c address a) S r = Faulted l c address a S r

-- a kind or a refusal that is passed on, with the storage and the registers that are left
abbrev pub step_result : Result StepKind Refusal → List ℕ → Regs → Stepped
step_result (Ok kind) S r = step_as kind S r
step_result (Err e) S r = Barred e

-- the machine that is to run next, if any, is on one of n pages
abbrev pub NextBelow : ℕ → Regs → Type 0
NextBelow n r = r.next ≢ 0 → r.next < n
