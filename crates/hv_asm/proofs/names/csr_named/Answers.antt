use Rattle.std.proofs.Common.{◌∙◌, ap}
use Rattle.hv_isa.specs.Csrs.{csr_number_of}
use Rattle.hv_asm.proofs.Naming.{csr_none}
use Rattle.hv_asm.proofs.names.csr_named.Goals as goal

pub returns-in_default : goal.returns-in_default
returns-in_default c = csr_none c.args.text.now c.in_default.ensures

pub returns : goal.returns
returns c = c.csr_by_name.ensures.number ∙ ap csr_number_of c.in-Some.ensures
