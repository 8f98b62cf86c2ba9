use Rattle.hv_isa.proofs.Registers.{number_is}
use Rattle.hv_isa.proofs.csrs.csr_by_name.Goals as goal

pub returns-clause-number : goal.returns-clause-number
returns-clause-number c = number_is c.args.text.now c.find_csr_number.result c.find_csr_number.ensures.found c.find_csr_number.ensures.none
