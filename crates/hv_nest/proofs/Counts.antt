-- How few words are noted and changed in the registers, together.
use Rattle.std.proofs.Common.{◌≡◌, ℕ, ◌+◌, ◌≤◌, Bool, true, List, [], ◌∷◌, length, get_or, refl, ap, ◌∙◌, sym, subst, arith}
use Rattle.hv_cpu.specs.Regs.{Regs, spelled}
use Rattle.hv_csr.specs.Traps.{take_trap_of}
use Rattle.hv_store.specs.declared.access.Slot.{Slot}
use Rattle.hv_block.specs.Block.{regs_at}
use Rattle.hv_exec.specs.Act.{Done, act_of}
use Rattle.hv_exec.specs.Changes.{changed_regs, ChangesFew}
use Rattle.hv_exec.proofs.Few.{few_act, few_idle, trap_few, differing_same}
use Rattle.hv_nest.specs.declared.notes.Note.{Note}
use Rattle.hv_nest.specs.Notes.{undone, is_exact}
use Rattle.hv_nest.specs.Step.{idle}
use Rattle.hv_nest.specs.Rows.{rows_limit}
use Rattle.hv_nest.proofs.Undone.{few_notes}

-- the notes of one instruction, with the registers that it changed
pub act_count : (S T : List ℕ) (F : List Slot) (h : ℕ) (r q : Regs) (notes : List Note) → Done T q ≡ act_of S F h r → is_exact T notes ≡ true → undone T notes ≡ S → length notes + changed_regs r q ≤ 6
act_count S T F h r q notes e exact origin = by (subst (ChangesFew S F r) (sym e) (few_act S F h r))
  where
    by : ChangesFew S F r (Done T q) → length notes + changed_regs r q ≤ 6
    by f =
        let few : length notes ≤ length f.0 = few_notes T notes f.0 exact (λ a z. f.2.elsewhere a z ∙ ap (λ (X : List ℕ). get_or X a 0) (sym origin)) in
        omega (arith, f.2.regs, f.3)

-- where nothing changed there is no note
nil_of : (notes : List Note) → length notes ≤ 0 → notes ≡ []
nil_of [] h = refl
nil_of (n ∷ notes) h = absurd (omega (arith, h))

pub no_notes : (S T : List ℕ) (notes : List Note) → is_exact T notes ≡ true → undone T notes ≡ S → T ≡ S → notes ≡ []
no_notes S T notes exact origin same =
    nil_of notes (few_notes T notes [] exact (λ a _. ap (λ (X : List ℕ). get_or X a 0) (same ∙ sym origin)))

changed_same : (r q : Regs) → q ≡ r → changed_regs r q ≡ 0
unfolding changed_regs
changed_same r q e = ap (changed_regs r) e ∙ differing_same (spelled r)

pub idle_regs : (r q : Regs) → q ≡ idle r → changed_regs r q ≤ 6
idle_regs r q e =
    let z : changed_regs r q ≡ changed_regs r (idle r) = ap (changed_regs r) e in
    omega (arith, few_idle r)

pub trap_regs : (r q : Regs) (cause : ℕ) (interrupt : Bool) (tval : ℕ) → q ≡ take_trap_of r cause interrupt tval → changed_regs r q ≤ 6
trap_regs r q cause interrupt tval e =
    let z : changed_regs r q ≡ changed_regs r (take_trap_of r cause interrupt tval) = ap (changed_regs r) e in
    omega (arith, trap_few r cause interrupt tval)

-- nothing is noted and no register changed
pub same_count : (notes : List Note) (r q : Regs) → notes ≡ [] → q ≡ r → length notes + changed_regs r q ≤ 6
same_count notes r q e f =
    let z : length notes ≡ 0 = ap length e in
    omega (arith, changed_same r q f)

pub regs_count : (notes : List Note) (r q : Regs) → notes ≡ [] → changed_regs r q ≤ 6 → length notes + changed_regs r q ≤ 6
regs_count notes r q e f =
    let z : length notes ≡ 0 = ap length e in
    omega arith

pub idle_count : (n : ℕ) (r q : Regs) → n ≤ 3 → q ≡ idle r → n + changed_regs r q ≤ 6
idle_count n r q h e =
    let z : changed_regs r q ≡ changed_regs r (idle r) = ap (changed_regs r) e in
    omega (arith, few_idle r)

pub refused_count : (S T : List ℕ) (notes : List Note) (r q : Regs) → is_exact T notes ≡ true → undone T notes ≡ S → T ≡ S → q ≡ r → length notes + changed_regs r q ≤ 6
refused_count S T notes r q exact origin same f = same_count notes r q (no_notes S T notes exact origin same) f

-- a child's registers are put back; its parent's stay
pub child_room : (S U : List ℕ) (g n : ℕ) (b q : Regs) → U ≡ S → regs_at S g ≡ b → n + changed_regs b q ≤ 6 → n + changed_regs (regs_at U g) q ≤ rows_limit
child_room S U g n b q e f h =
    let z : changed_regs (regs_at U g) q ≡ changed_regs b q = ap (λ (X : List ℕ). changed_regs (regs_at X g) q) e ∙ ap (λ (p : Regs). changed_regs p q) f in
    omega arith

pub child_count : (S U : List ℕ) (g m n : ℕ) (b q r : Regs) → U ≡ S → regs_at S g ≡ b → n + changed_regs b q ≤ 6 → m ≤ n + changed_regs (regs_at U g) q → m + changed_regs r r ≤ 6
child_count S U g m n b q r e f h k =
    let z : changed_regs (regs_at U g) q ≡ changed_regs b q = ap (λ (X : List ℕ). changed_regs (regs_at X g) q) e ∙ ap (λ (p : Regs). changed_regs p q) f in
    omega (arith, changed_same r r refl)

pub undone_none : (T : List ℕ) (notes : List Note) → notes ≡ [] → undone T notes ≡ T
unfolding undone
undone_none T notes e = ap (undone T) e

pub ruleset counts = (act_count, no_notes, undone_none, same_count, regs_count, refused_count, idle_regs, idle_count)
