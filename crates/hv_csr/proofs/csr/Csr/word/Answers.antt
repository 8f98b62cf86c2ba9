use Rattle.std.proofs.Common.{rules}
use Rattle.hv_csr.proofs.Places.{others_stay}
use Rattle.hv_csr.proofs.csr.Csr.word.Goals as goal

pub returns-in-Sstatus-clause-others : goal.returns-in-Sstatus-clause-others
returns-in-Sstatus-clause-others c = others_stay c.args.self 33 (search rules)

pub returns-in-Mtvec-clause-others : goal.returns-in-Mtvec-clause-others
returns-in-Mtvec-clause-others c = others_stay c.args.self 34 (search rules)

pub returns-in-Mepc-clause-others : goal.returns-in-Mepc-clause-others
returns-in-Mepc-clause-others c = others_stay c.args.self 35 (search rules)

pub returns-in-Mcause-clause-others : goal.returns-in-Mcause-clause-others
returns-in-Mcause-clause-others c = others_stay c.args.self 36 (search rules)

pub returns-in-Mtval-clause-others : goal.returns-in-Mtval-clause-others
returns-in-Mtval-clause-others c = others_stay c.args.self 37 (search rules)

pub returns-in-Mscratch-clause-others : goal.returns-in-Mscratch-clause-others
returns-in-Mscratch-clause-others c = others_stay c.args.self 38 (search rules)

pub returns-in-Medeleg-clause-others : goal.returns-in-Medeleg-clause-others
returns-in-Medeleg-clause-others c = others_stay c.args.self 39 (search rules)

pub returns-in-Mideleg-clause-others : goal.returns-in-Mideleg-clause-others
returns-in-Mideleg-clause-others c = others_stay c.args.self 40 (search rules)

pub returns-in-Sie-clause-others : goal.returns-in-Sie-clause-others
returns-in-Sie-clause-others c = others_stay c.args.self 41 (search rules)

pub returns-in-Sip-clause-others : goal.returns-in-Sip-clause-others
returns-in-Sip-clause-others c = others_stay c.args.self 42 (search rules)

pub returns-in-Stvec-clause-others : goal.returns-in-Stvec-clause-others
returns-in-Stvec-clause-others c = others_stay c.args.self 43 (search rules)

pub returns-in-Sepc-clause-others : goal.returns-in-Sepc-clause-others
returns-in-Sepc-clause-others c = others_stay c.args.self 44 (search rules)

pub returns-in-Scause-clause-others : goal.returns-in-Scause-clause-others
returns-in-Scause-clause-others c = others_stay c.args.self 45 (search rules)

pub returns-in-Stval-clause-others : goal.returns-in-Stval-clause-others
returns-in-Stval-clause-others c = others_stay c.args.self 46 (search rules)

pub returns-in-Sscratch-clause-others : goal.returns-in-Sscratch-clause-others
returns-in-Sscratch-clause-others c = others_stay c.args.self 47 (search rules)

pub returns-in-Satp-clause-others : goal.returns-in-Satp-clause-others
returns-in-Satp-clause-others c = others_stay c.args.self 48 (search rules)

pub returns-in_default-clause-others : goal.returns-in_default-clause-others
returns-in_default-clause-others c = others_stay c.args.self 0 (search rules)
