-- The operands of each instruction, and the fields that they give.
use Rattle.std.specs.Prelude.{List, [], ◌∷◌}
use Rattle.hv_isa.specs.declared.Op.{Op}
use Rattle.hv_isa.specs.declared.Op.TheVariants as op
use Rattle.hv_isa.specs.declared.Instr.{Instr}

-- Which field of the instruction an operand gives.
pub data Role : Type 0 where
  -- a register: rd, rs1 or rs2
  Rd : Role
  Rs1 : Role
  Rs2 : Role
  -- a signed number, or a shift amount
  Immediate : Role
  -- the bits 31 to 12 of a word
  Upper : Role
  -- a signed number, and a register in parentheses: the immediate and rs1
  Based : Role
  -- a label, or a number: how far it is to there
  Target : Role
  -- a control and status register
  Control : Role
  -- a number that stands in rs1's place
  Small : Role

-- the instruction without the field that an operand gives
abbrev pub without : Instr → Role → Instr
without i Rd = record i { rd = 0 }
without i Rs1 = record i { rs1 = 0 }
without i Rs2 = record i { rs2 = 0 }
without i Immediate = record i { imm = 0 }
without i Upper = record i { imm = 0 }
without i Based = record i { rs1 = 0; imm = 0 }
without i Target = record i { imm = 0 }
without i Control = record i { imm = 0 }
without i Small = record i { rs1 = 0 }

-- The operands of each instruction, in the order of the manual's listings (Unprivileged ISA, chapter 24).
abbrev pub roles_of : Op → List Role
roles_of op.Lui = Rd ∷ Upper ∷ []
roles_of op.Auipc = Rd ∷ Upper ∷ []
roles_of op.Jal = Rd ∷ Target ∷ []
roles_of op.Jalr = Rd ∷ Based ∷ []
roles_of op.Beq = Rs1 ∷ Rs2 ∷ Target ∷ []
roles_of op.Bne = Rs1 ∷ Rs2 ∷ Target ∷ []
roles_of op.Blt = Rs1 ∷ Rs2 ∷ Target ∷ []
roles_of op.Bge = Rs1 ∷ Rs2 ∷ Target ∷ []
roles_of op.Bltu = Rs1 ∷ Rs2 ∷ Target ∷ []
roles_of op.Bgeu = Rs1 ∷ Rs2 ∷ Target ∷ []
roles_of op.Lb = Rd ∷ Based ∷ []
roles_of op.Lh = Rd ∷ Based ∷ []
roles_of op.Lw = Rd ∷ Based ∷ []
roles_of op.Lbu = Rd ∷ Based ∷ []
roles_of op.Lhu = Rd ∷ Based ∷ []
roles_of op.Sb = Rs2 ∷ Based ∷ []
roles_of op.Sh = Rs2 ∷ Based ∷ []
roles_of op.Sw = Rs2 ∷ Based ∷ []
roles_of op.Addi = Rd ∷ Rs1 ∷ Immediate ∷ []
roles_of op.Slti = Rd ∷ Rs1 ∷ Immediate ∷ []
roles_of op.Sltiu = Rd ∷ Rs1 ∷ Immediate ∷ []
roles_of op.Xori = Rd ∷ Rs1 ∷ Immediate ∷ []
roles_of op.Ori = Rd ∷ Rs1 ∷ Immediate ∷ []
roles_of op.Andi = Rd ∷ Rs1 ∷ Immediate ∷ []
roles_of op.Slli = Rd ∷ Rs1 ∷ Immediate ∷ []
roles_of op.Srli = Rd ∷ Rs1 ∷ Immediate ∷ []
roles_of op.Srai = Rd ∷ Rs1 ∷ Immediate ∷ []
roles_of op.Add = Rd ∷ Rs1 ∷ Rs2 ∷ []
roles_of op.Sub = Rd ∷ Rs1 ∷ Rs2 ∷ []
roles_of op.Sll = Rd ∷ Rs1 ∷ Rs2 ∷ []
roles_of op.Slt = Rd ∷ Rs1 ∷ Rs2 ∷ []
roles_of op.Sltu = Rd ∷ Rs1 ∷ Rs2 ∷ []
roles_of op.Xor = Rd ∷ Rs1 ∷ Rs2 ∷ []
roles_of op.Srl = Rd ∷ Rs1 ∷ Rs2 ∷ []
roles_of op.Sra = Rd ∷ Rs1 ∷ Rs2 ∷ []
roles_of op.Or = Rd ∷ Rs1 ∷ Rs2 ∷ []
roles_of op.And = Rd ∷ Rs1 ∷ Rs2 ∷ []
roles_of op.Fence = []
roles_of op.FenceI = []
roles_of op.Ecall = []
roles_of op.Ebreak = []
roles_of op.Csrrw = Rd ∷ Control ∷ Rs1 ∷ []
roles_of op.Csrrs = Rd ∷ Control ∷ Rs1 ∷ []
roles_of op.Csrrc = Rd ∷ Control ∷ Rs1 ∷ []
roles_of op.Csrrwi = Rd ∷ Control ∷ Small ∷ []
roles_of op.Csrrsi = Rd ∷ Control ∷ Small ∷ []
roles_of op.Csrrci = Rd ∷ Control ∷ Small ∷ []
roles_of op.Sret = []
roles_of op.Mret = []
roles_of op.Wfi = []
roles_of op.SfenceVma = Rs1 ∷ Rs2 ∷ []
roles_of op.Vmenter = Rs1 ∷ []

-- an instruction whose other fields are zero
abbrev pub plain : Op → Instr
plain op = record { op = op; rd = 0; rs1 = 0; rs2 = 0; imm = 0 }

-- what an instruction has where no operand gives it: zeros, but a fence orders all accesses (section 2.7)
abbrev pub rest_of : Op → Instr
rest_of op.Fence = record { op = op.Fence; rd = 0; rs1 = 0; rs2 = 0; imm = 0x0FF }
rest_of op = plain op
