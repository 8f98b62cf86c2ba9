use Rattle.hv_isa.proofs.Registers.{back_again}
use Rattle.hv_isa.proofs.csrs.csr_name.Goals as goal

pub returns-clause-back : goal.returns-clause-back
returns-clause-back c = back_again c.args.number c.find_csr_name.result c.find_csr_name.ensures
