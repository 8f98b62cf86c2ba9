-- What an instruction's own work leaves as it was.
use Rattle.std.proofs.Common.{refl}
use Rattle.hv_cpu.specs.Regs.{Regs}
use Rattle.hv_exec.specs.declared.answer.Task.{Task}
use Rattle.hv_exec.specs.declared.answer.Task.TheVariants.{Done, Trap, Load, Store, Enter}
use Rattle.hv_exec.specs.Answer.{KeepsUnlessDone}

-- registers that nothing wrote
pub keeps_same : (t : Task) (r : Regs) → KeepsUnlessDone t r r
keeps_same (Done _) r = tt
keeps_same (Trap _ _) r = refl
keeps_same (Load _ _ _ _) r = refl
keeps_same (Store _ _ _) r = refl
keeps_same (Enter _) r = refl
