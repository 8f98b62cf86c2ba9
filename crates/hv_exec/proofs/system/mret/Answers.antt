use Rattle.hv_exec.proofs.Leaves.{mret_leaves}
use Rattle.hv_exec.proofs.system.mret.Goals as goal

pub returns-in-Ok-clause-touches : goal.returns-in-Ok-clause-touches
returns-in-Ok-clause-touches c = mret_leaves c.args.cpu.now _ c.in-Ok.ensures.left
