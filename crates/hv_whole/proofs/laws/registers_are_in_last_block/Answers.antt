use Rattle.hv_whole.specs.Whole.{regs_of}
use Rattle.hv_whole.proofs.Readings.{regs_last}
use Rattle.hv_whole.proofs.laws.registers_are_in_last_block.Goals as goal

pub returns : goal.returns
returns c = λ h items st g e. regs_last st.storage items (regs_of h st) g e
