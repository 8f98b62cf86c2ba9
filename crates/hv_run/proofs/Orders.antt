-- A change of one hart's lines and a step of another touch nothing of one another.
use Rattle.std.proofs.Common.{◌≡◌, ◌≢◌, ℕ, List, Option, None, Some, slice_get, refl, sym, ap, ap₂, ◌∙◌}
use Rattle.std.proofs.lemmas.List.{set_comm}
use Rattle.hv_cpu.specs.Regs.{Regs}
use Rattle.hv_cpu.specs.Lines.{lined_of}
use Rattle.hv_nest.specs.declared.outcome.Outcome.{Outcome}
use Rattle.hv_nest.specs.declared.outcome.StepKind.{StepKind}
use Rattle.hv_nest.specs.declared.outcome.StepKind.TheVariants.{Worked as WorkedKind, Recall, Fault}
use Rattle.hv_nest.specs.State.{State}
use Rattle.hv_nest.specs.Step.{Stepped, Worked, Recalled, Faulted, Barred, host_step_of}
use Rattle.hv_nest.specs.Move.{Moved, moved_by, moved_at, moved_of, lined_at, lined_state, with_hart, last_of}
use Rattle.hv_nest.specs.Changes.{differences}
use Rattle.hv_run.specs.Order.{OrderLaw}
use Rattle.hv_whole.proofs.Untouched.{hart_other}

-- a step's kind, and the state after it and a change of lines
abbrev then_lined : ℕ → ℕ → Moved → Moved
then_lined h mask m = record { kind = m.kind; state = lined_state m.state h mask }

-- where the other hart isn't there, its lines don't change
unlined : (st : State) (h mask : ℕ) → slice_get st.harts h ≡ None → lined_state st h mask ≡ st
unlined st h mask e = ap (lined_at st h mask) e

lined : (st : State) (h mask : ℕ) (r : Regs) → slice_get st.harts h ≡ Some r → lined_state st h mask ≡ with_hart st st.storage h (lined_of r mask)
lined st h mask r e = ap (lined_at st h mask) e

-- registers of another hart that are replaced, before the lines change or after it
replaced : (st : State) (S : List ℕ) (k h mask : ℕ) (q : Regs) (o : Option Regs) → k ≢ h → slice_get st.harts h ≡ o
    → with_hart (lined_at st h mask o) S k q ≡ lined_state (with_hart st S k q) h mask
replaced st S k h mask q None ne e =
    sym (unlined (with_hart st S k q) h mask (hart_other st.harts k h q (λ i. ne (sym i)) ∙ e))
replaced st S k h mask q (Some r) ne e =
    ap (λ (rs : List Regs). let t : State = record { storage = S; harts = rs } in t) (set_comm st.harts h k (lined_of r mask) q (λ i. ne (sym i)))
    ∙ sym (lined (with_hart st S k q) h mask r (hart_other st.harts k h q (λ i. ne (sym i)) ∙ e))

-- what a step comes to
stepped : (st : State) (k h mask : ℕ) (o : Option Regs) (s : Stepped) → k ≢ h → slice_get st.harts h ≡ o
    → moved_by (lined_at st h mask o) k s ≡ then_lined h mask (moved_by st k s)
stepped st k h mask o (Worked S q) ne e =
    ap (λ (t : State). let m : Moved = record { kind = WorkedKind; state = t } in m) (replaced st S k h mask q o ne e)
stepped st k h mask o (Recalled l S q) ne e =
    ap (λ (t : State). let m : Moved = record { kind = Recall l; state = t } in m) (replaced st S k h mask q o ne e)
stepped st k h mask o (Faulted l c address a S q) ne e =
    ap (λ (t : State). let m : Moved = record { kind = Fault l c address a; state = t } in m) (replaced st S k h mask q o ne e)
stepped st k h mask o (Barred refusal) ne e =
    ap (λ (p : Option Regs). let m : Moved = record { kind = WorkedKind; state = lined_at st h mask p } in m) (sym e)

-- the storage is as it was, and so are the other harts
storage_kept : (st : State) (h mask : ℕ) (o : Option Regs) → (lined_at st h mask o).storage ≡ st.storage
storage_kept st h mask None = refl
storage_kept st h mask (Some r) = refl

harts_kept : (st : State) (k h mask : ℕ) (o : Option Regs) → k ≢ h → slice_get (lined_at st h mask o).harts k ≡ slice_get st.harts k
harts_kept st k h mask None ne = refl
harts_kept st k h mask (Some r) ne = hart_other st.harts h k (lined_of r mask) ne

moved : (st : State) (k h mask : ℕ) (o p : Option Regs) → k ≢ h → slice_get st.harts h ≡ o
    → moved_at (lined_at st h mask o) k p ≡ then_lined h mask (moved_at st k p)
moved st k h mask o None ne e =
    ap (λ (p : Option Regs). let m : Moved = record { kind = WorkedKind; state = lined_at st h mask p } in m) (sym e)
moved st k h mask o (Some q) ne e =
    ap (λ (S : List ℕ). moved_by (lined_at st h mask o) k (host_step_of S k q)) (storage_kept st h mask o)
    ∙ stepped st k h mask o (host_step_of st.storage k q) ne e

-- the step behind the change of lines is the step, and then the change of lines
moves : (st : State) (k h mask : ℕ) → k ≢ h → moved_of (lined_state st h mask) k ≡ then_lined h mask (moved_of st k)
moves st k h mask ne =
    ap (moved_at (lined_state st h mask) k) (harts_kept st k h mask (slice_get st.harts h) ne)
    ∙ moved st k h mask (slice_get st.harts h) (slice_get st.harts k) ne refl

abbrev told : List ℕ → StepKind → List ℕ → Outcome
told S kind T = record { kind = kind; changed = differences S T }

pub order : OrderLaw
unfolding last_of
order st k h mask ne = record {
  outcome =
      ap (λ (m : Moved). told (lined_state st h mask).storage m.kind m.state.storage) (moves st k h mask ne)
      ∙ ap₂ (λ (S T : List ℕ). told S (moved_of st k).kind T)
      (storage_kept st h mask (slice_get st.harts h))
      (storage_kept (moved_of st k).state h mask (slice_get (moved_of st k).state.harts h));
  state = ap (λ (m : Moved). m.state) (moves st k h mask ne);
}
