use Rattle.std.proofs.Common.{rules}
use Rattle.hv_exec.specs.Arithmetic.{sum_of}
use Rattle.hv_exec.proofs.Leaves.{file_leaves}
use Rattle.hv_exec.proofs.answer.jump.Goals as goal

pub returns-clause-touches : goal.returns-clause-touches
returns-clause-touches c =
    (c.requires, file_leaves c.args.cpu.now _ c.args.rd (sum_of c.args.cpu.now.pc 4) c.args.target (search rules))
