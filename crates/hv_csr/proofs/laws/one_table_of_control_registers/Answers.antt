use Rattle.hv_csr.proofs.Naming.{same_names, same_numbers}
use Rattle.hv_csr.proofs.laws.one_table_of_control_registers.Goals as goal

pub returns-clause-name : goal.returns-clause-name
returns-clause-name c = same_names

pub returns-clause-number : goal.returns-clause-number
returns-clause-number c = same_numbers
