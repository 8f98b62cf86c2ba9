-- What each instruction does (Unprivileged ISA, chapters 2, 3 and 9; Privileged Architecture, sections 3.1.6, 3.3
-- and 4.2).
use Rattle.std.specs.Prelude.{ℕ, ◌==◌, not, nat_lt, true, false, bit_and, bit_or, bit_xor}
use Rattle.hv_word.specs.Words.{field_of}
use Rattle.hv_cpu.specs.Regs.{Regs, reg}
use Rattle.hv_isa.specs.declared.Instr.{Instr}
use Rattle.hv_isa.specs.declared.Op.{Op}
use Rattle.hv_isa.specs.declared.Op.TheVariants.{Lui, Auipc, Jal, Jalr, Beq, Bne, Blt, Bge, Bltu, Bgeu, Lb, Lh, Lw, Lbu}
use Rattle.hv_isa.specs.declared.Op.TheVariants.{Lhu, Sb, Sh, Sw, Addi, Slti, Sltiu, Xori, Ori, Andi, Slli, Srli, Srai}
use Rattle.hv_isa.specs.declared.Op.TheVariants.{Add, Sub, Sll, Slt, Sltu, Xor, Srl, Sra, Or, And, Fence, FenceI, Ecall}
use Rattle.hv_isa.specs.declared.Op.TheVariants.{Ebreak, Csrrw, Csrrs, Csrrc, Csrrwi, Csrrsi, Csrrci, Sret, Mret, Wfi}
use Rattle.hv_isa.specs.declared.Op.TheVariants.{SfenceVma, Vmenter}
use Rattle.hv_csr.specs.Traps.{mret_of, sret_of}
use Rattle.hv_exec.specs.declared.answer.Width.TheVariants.{Byte, Half, Word}
use Rattle.hv_exec.specs.declared.rows.Fetched.{Fetched}
use Rattle.hv_exec.specs.declared.system.Update.TheVariants.{Replace, Set, Clear}
use Rattle.hv_exec.specs.Arithmetic.{sum_of, difference_of, is_less_signed, flag_of, shift_left, shift_right}
use Rattle.hv_exec.specs.Arithmetic.{shift_right_signed, even_of}
use Rattle.hv_exec.specs.Answer.{Answer, Next, Trap, advanced, given, passed, jumped, branched}
use Rattle.hv_exec.specs.Memory.{loading, storing}
use Rattle.hv_exec.specs.System.{csr_row, returned, may_wait, may_fence, called, entering}

-- an instruction with the word w that was fetched, of a hart with the registers r
abbrev pub fetched_of : ℕ → Regs → Fetched
fetched_of w r = record { word = w; pc = r.pc; a = reg r (field_of w 15 5); b = reg r (field_of w 20 5) }

-- rd gets v
abbrev pub gives : Instr → Regs → ℕ → Answer
gives i r v = Next (given r i.rd v)

-- The row of an operation: for the instruction i with the word w, of hart h with the registers r. The immediate is
-- sign-extended, in place for lui and auipc, a shift's amount, or the number of a control register.
abbrev pub row_answer : Op → Instr → ℕ → Regs → ℕ → Answer
row_answer Lui i w r h = gives i r i.imm
row_answer Auipc i w r h = gives i r (sum_of r.pc i.imm)
row_answer Jal i w r h = jumped r i.rd (sum_of r.pc i.imm)
row_answer Jalr i w r h = jumped r i.rd (even_of (sum_of (reg r i.rs1) i.imm))
row_answer Beq i w r h = branched r (reg r i.rs1 == reg r i.rs2) (sum_of r.pc i.imm)
row_answer Bne i w r h = branched r (not (reg r i.rs1 == reg r i.rs2)) (sum_of r.pc i.imm)
row_answer Blt i w r h = branched r (is_less_signed (reg r i.rs1) (reg r i.rs2)) (sum_of r.pc i.imm)
row_answer Bge i w r h = branched r (not (is_less_signed (reg r i.rs1) (reg r i.rs2))) (sum_of r.pc i.imm)
row_answer Bltu i w r h = branched r (nat_lt (reg r i.rs1) (reg r i.rs2)) (sum_of r.pc i.imm)
row_answer Bgeu i w r h = branched r (not (nat_lt (reg r i.rs1) (reg r i.rs2))) (sum_of r.pc i.imm)
row_answer Lb i w r h = loading (sum_of (reg r i.rs1) i.imm) Byte true i.rd
row_answer Lh i w r h = loading (sum_of (reg r i.rs1) i.imm) Half true i.rd
row_answer Lw i w r h = loading (sum_of (reg r i.rs1) i.imm) Word true i.rd
row_answer Lbu i w r h = loading (sum_of (reg r i.rs1) i.imm) Byte false i.rd
row_answer Lhu i w r h = loading (sum_of (reg r i.rs1) i.imm) Half false i.rd
row_answer Sb i w r h = storing (sum_of (reg r i.rs1) i.imm) Byte (reg r i.rs2)
row_answer Sh i w r h = storing (sum_of (reg r i.rs1) i.imm) Half (reg r i.rs2)
row_answer Sw i w r h = storing (sum_of (reg r i.rs1) i.imm) Word (reg r i.rs2)
row_answer Addi i w r h = gives i r (sum_of (reg r i.rs1) i.imm)
row_answer Slti i w r h = gives i r (flag_of (is_less_signed (reg r i.rs1) i.imm))
row_answer Sltiu i w r h = gives i r (flag_of (nat_lt (reg r i.rs1) i.imm))
row_answer Xori i w r h = gives i r (bit_xor (reg r i.rs1) i.imm)
row_answer Ori i w r h = gives i r (bit_or (reg r i.rs1) i.imm)
row_answer Andi i w r h = gives i r (bit_and (reg r i.rs1) i.imm)
row_answer Slli i w r h = gives i r (shift_left (reg r i.rs1) i.imm)
row_answer Srli i w r h = gives i r (shift_right (reg r i.rs1) i.imm)
row_answer Srai i w r h = gives i r (shift_right_signed (reg r i.rs1) i.imm)
row_answer Add i w r h = gives i r (sum_of (reg r i.rs1) (reg r i.rs2))
row_answer Sub i w r h = gives i r (difference_of (reg r i.rs1) (reg r i.rs2))
row_answer Sll i w r h = gives i r (shift_left (reg r i.rs1) (reg r i.rs2))
row_answer Slt i w r h = gives i r (flag_of (is_less_signed (reg r i.rs1) (reg r i.rs2)))
row_answer Sltu i w r h = gives i r (flag_of (nat_lt (reg r i.rs1) (reg r i.rs2)))
row_answer Xor i w r h = gives i r (bit_xor (reg r i.rs1) (reg r i.rs2))
row_answer Srl i w r h = gives i r (shift_right (reg r i.rs1) (reg r i.rs2))
row_answer Sra i w r h = gives i r (shift_right_signed (reg r i.rs1) (reg r i.rs2))
row_answer Or i w r h = gives i r (bit_or (reg r i.rs1) (reg r i.rs2))
row_answer And i w r h = gives i r (bit_and (reg r i.rs1) (reg r i.rs2))
-- with one hart at a time, and storage that is read word by word, there is nothing for the fences to order
row_answer Fence i w r h = Next (advanced r)
row_answer FenceI i w r h = Next (advanced r)
row_answer Ecall i w r h = called r
row_answer Ebreak i w r h = Trap 3 0
row_answer Csrrw i w r h = csr_row Replace (reg r i.rs1) i w r h
row_answer Csrrs i w r h = csr_row Set (reg r i.rs1) i w r h
row_answer Csrrc i w r h = csr_row Clear (reg r i.rs1) i w r h
-- the field of rs1 is the source itself
row_answer Csrrwi i w r h = csr_row Replace i.rs1 i w r h
row_answer Csrrsi i w r h = csr_row Set i.rs1 i w r h
row_answer Csrrci i w r h = csr_row Clear i.rs1 i w r h
row_answer Sret i w r h = returned (sret_of r) w
row_answer Mret i w r h = returned (mret_of r) w
-- it waits for nothing
row_answer Wfi i w r h = passed (may_wait r) w r
-- translations aren't kept from one instruction to the next
row_answer SfenceVma i w r h = passed (may_fence r) w r
-- rs1 names the machine to run by the address of the page of its block; the address isn't translated
row_answer Vmenter i w r h = entering r (reg r i.rs1) w

-- the answer of an instruction i with the word w, of hart h with the registers r
unfoldable pub do_of : Instr → ℕ → Regs → ℕ → Answer
do_of i w r h = row_answer i.op i w r h
