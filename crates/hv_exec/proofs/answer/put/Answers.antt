use Rattle.std.proofs.Common.{rules}
use Rattle.hv_exec.specs.Answer.{given}
use Rattle.hv_exec.proofs.Leaves.{given_leaves}
use Rattle.hv_exec.proofs.answer.put.Goals as goal

pub returns-clause-touches : goal.returns-clause-touches
unfolding given
returns-clause-touches c =
    (c.requires, given_leaves c.args.cpu.now _ c.args.rd c.args.value (search rules))
