use Rattle.hv_block.proofs.Fits.{hart_fits, fits_hart_tells}
use Rattle.hv_block.proofs.laws.registers_of_a_block_are_those_of_a_hart.Goals as goal

pub returns : goal.returns
returns c = λ r. (fits_hart_tells r, hart_fits r)
