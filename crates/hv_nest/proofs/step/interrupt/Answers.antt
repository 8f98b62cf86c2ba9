-- A trap changes six registers at most.
use Rattle.std.proofs.Common.{true}
use Rattle.hv_nest.proofs.Counts.{trap_regs}
use Rattle.hv_nest.proofs.step.interrupt.Goals as goal

pub returns-clause-count : goal.returns-clause-count
returns-clause-count c = trap_regs c.args.cpu.now c.take_trap.new.cpu c.args.cause true 0 c.take_trap.ensures
