-- The flat step is the bare machine's.
use Rattle.std.proofs.Common.{◌≡◌, ℕ, true, Option, Some, None, List, refl, ap, sym}
use Rattle.hv_cpu.specs.Regs.{Regs}
use Rattle.hv_word.specs.Storage.{page_count}
use Rattle.hv_csr.specs.Interrupts.{pending_of}
use Rattle.hv_csr.specs.Traps.{take_trap_of}
use Rattle.hv_store.specs.Access.{identity}
use Rattle.hv_exec.specs.Act.{Done, act_of}
use Rattle.hv_nest.specs.Step.{act_step, host_step_of}
use Rattle.hv_nest.proofs.Rows.{host_acts, host_traps}
use Rattle.hv_trace.specs.Flat.{FlatLaw, flat_step_of, flat_step_on}

flat_by : (T : List ℕ) (c : Regs) (p : Option ℕ) → p ≡ pending_of c → c.next ≡ 0 → host_step_of T 0 c ≡ act_step (flat_step_on T c p)
flat_by T c None e z = host_acts T 0 c e z
flat_by T c (Some k) e z = host_traps T 0 c k e z

pub flat : FlatLaw
unfolding flat_step_of
flat T c z = flat_by T c (pending_of c) refl z

-- the two cases of the step
pub flat_traps : (T : List ℕ) (c : Regs) (k : ℕ) → Some k ≡ pending_of c → flat_step_of T c ≡ Done T (take_trap_of c k true 0)
unfolding flat_step_of
flat_traps T c k e = ap (flat_step_on T c) (sym e)

pub flat_acts : (T : List ℕ) (c : Regs) → None ≡ pending_of c → flat_step_of T c ≡ act_of T (identity (page_count T)) 0 c
unfolding flat_step_of
flat_acts T c e = ap (flat_step_on T c) (sym e)

pub ruleset flats = (flat_traps, flat_acts)
