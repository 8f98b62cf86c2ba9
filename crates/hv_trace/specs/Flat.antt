-- One step of a machine that runs alone and runs no machine of its own: the storage T is all that it has, and each of
-- its pages is a page of it.
use Rattle.std.specs.Prelude.{◌≡◌, ℕ, true, List, Option, Some, None}
use Rattle.hv_word.specs.Storage.{page_count}
use Rattle.hv_cpu.specs.Regs.{Regs}
use Rattle.hv_csr.specs.Traps.{take_trap_of}
use Rattle.hv_csr.specs.Interrupts.{pending_of}
use Rattle.hv_store.specs.Access.{identity}
use Rattle.hv_exec.specs.Act.{Acted, Done, act_of}
use Rattle.hv_nest.specs.Step.{act_step, host_step_of}

-- the interrupt that is pending is taken, or else an instruction is executed
abbrev pub flat_step_on : List ℕ → Regs → Option ℕ → Acted
flat_step_on T c (Some k) = Done T (take_trap_of c k true 0)
flat_step_on T c None = act_of T (identity (page_count T)) 0 c

-- the step of the machine with the registers c, which runs no other
unfoldable pub flat_step_of : List ℕ → Regs → Acted
flat_step_of T c = flat_step_on T c (pending_of c)

-- where no machine is to run, the step of hart 0 of the bare machine is this one
abbrev pub FlatLaw : Type 0
FlatLaw = (T : List ℕ) (c : Regs) → c.next ≡ 0 → host_step_of T 0 c ≡ act_step (flat_step_of T c)
