use Rattle.hv_exec.proofs.Leaves.{sret_leaves}
use Rattle.hv_exec.proofs.system.sret.Goals as goal

pub returns-in-Ok-clause-touches : goal.returns-in-Ok-clause-touches
returns-in-Ok-clause-touches c = sret_leaves c.args.cpu.now _ c.in-Ok.ensures.left
