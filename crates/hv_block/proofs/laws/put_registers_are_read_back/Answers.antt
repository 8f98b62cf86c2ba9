use Rattle.hv_block.proofs.Words.{regs_back}
use Rattle.hv_block.proofs.laws.put_registers_are_read_back.Goals as goal

pub returns : goal.returns
returns c = regs_back
