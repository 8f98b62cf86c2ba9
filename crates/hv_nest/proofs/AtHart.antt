-- A hart whose registers change where they stand: the harts that count are the first of an array.
use Rattle.std.proofs.Common.{◌≡◌, ℕ, ◌<◌, ◌≤◌, List, length, take, set, get_or, Some, refl, ap, ◌∙◌, sym, subst, arith, slice_get}
use Rattle.std.specs.Prelude.{All}
use Rattle.std.proofs.Math.Seq.{take-set-lt}
use Rattle.std.proofs.lemmas.List.{length-take-le, get_or-take}
use Rattle.std.proofs.lemmas.List.Elements.{All-set}
use Rattle.std.proofs.lemmas.Option.{slice_get-get_or}
use Rattle.hv_cpu.specs.Regs.{Regs}
use Rattle.hv_nest.specs.declared.outcome.StepKind.{StepKind}
use Rattle.hv_nest.specs.declared.outcome.StepKind.TheVariants.{Worked as WorkedKind, Recall, Fault}
use Rattle.hv_nest.specs.State.{State}
use Rattle.hv_nest.specs.Kinds.{step_as, NextBelow}
use Rattle.hv_nest.specs.Step.{host_step_of}
use Rattle.hv_nest.specs.Move.{Moved, moved_by, moved_at, moved_of}

below : (count hart : ℕ) (cpus rs : List Regs) → take count cpus ≡ rs → count ≤ length cpus → hart < length rs → hart < count
below count hart cpus rs is fits lt = omega (arith, lt, ap length is, length-take-le count cpus fits)

-- what stands there is the hart's
pub registers_at : (count hart : ℕ) (cpus rs : List Regs) (d : Regs) → take count cpus ≡ rs → count ≤ length cpus → hart < length rs → slice_get rs hart ≡ Some (get_or cpus hart d)
registers_at count hart cpus rs d is fits lt =
    slice_get-get_or rs hart d lt
    ∙ ap (λ (xs : List Regs). Some (get_or xs hart d)) (sym is)
    ∙ ap Some (get_or-take count cpus hart d (below count hart cpus rs is fits lt))

-- other registers there are other registers of the hart
pub replaced_at : (count hart : ℕ) (cpus rs : List Regs) (q : Regs) → take count cpus ≡ rs → count ≤ length cpus → hart < length rs → take count (set cpus hart q) ≡ set rs hart q
replaced_at count hart cpus rs q is fits lt =
    take-set-lt count cpus hart q (below count hart cpus rs is fits lt)
    ∙ ap (λ (xs : List Regs). set xs hart q) is

-- the state after a step that left these registers
pub moved_at_hart : (S T : List ℕ) (rs ps : List Regs) (hart : ℕ) (r q : Regs) (kind : StepKind) → slice_get rs hart ≡ Some r → ps ≡ set rs hart q → step_as kind T q ≡ host_step_of S hart r → record { kind = kind; state = record { storage = T; harts = ps } } ≡ moved_of (record { storage = S; harts = rs }) hart
moved_at_hart S T rs ps hart r q kind at after e =
    let st : State = record { storage = S; harts = rs } in
    ap (λ (xs : List Regs). let m : Moved = record { kind = kind; state = record { storage = T; harts = xs } } in m) after
    ∙ by kind
    ∙ ap (moved_by st hart) e
    ∙ ap (moved_at st hart) (sym at)
  where
    by : (kind : StepKind) → record { kind = kind; state = record { storage = T; harts = set rs hart q } } ≡ moved_by (record { storage = S; harts = rs }) hart (step_as kind T q)
    by WorkedKind = refl
    by (Recall l) = refl
    by (Fault l c address a) = refl

-- each next is still a page of the storage
pub next_kept : (n hart : ℕ) (rs ps : List Regs) (q : Regs) → ps ≡ set rs hart q → NextBelow n q → All (NextBelow n) rs → All (NextBelow n) ps
next_kept n hart rs ps q after next all = subst (All (NextBelow n)) (sym after) (All-set (NextBelow n) rs hart q next all)
