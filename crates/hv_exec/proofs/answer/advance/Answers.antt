use Rattle.std.proofs.Common.{rules, arith}
use Rattle.hv_exec.specs.Arithmetic.{sum_of}
use Rattle.hv_exec.proofs.Leaves.{pc_leaves}
use Rattle.hv_exec.proofs.answer.advance.Goals as goal

pub returns-clause-touches : goal.returns-clause-touches
returns-clause-touches c = (omega arith, pc_leaves c.args.cpu.now _ (sum_of c.args.cpu.now.pc 4) (search rules))
