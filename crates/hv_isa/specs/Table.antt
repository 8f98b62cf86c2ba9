-- The 52 instructions and their words: RV32I, Zicsr and Zifencei (Unprivileged ISA, chapters 2, 3, 9
-- and the listings of chapter 24), sret, mret, wfi and sfence.vma (Privileged Architecture, sections
-- 3.3 and 4.2), and vmenter in the space for custom instructions.
use Rattle.std.specs.Prelude.{ℕ, ◌≡◌, ◌+◌, ◌*◌, ◌^◌, ◌%◌, ◌<◌, Bool, true, ◌==◌, ◌&&◌, List, [], ◌∷◌, Option, Some}
use Rattle.std.specs.Prelude.{None, find}
use Rattle.std.specs.Option.{option_map}
use Rattle.hv_word.specs.Words.{field_of, sext_of}
use Rattle.hv_isa.specs.declared.Instr.{Instr}
use Rattle.hv_isa.specs.declared.Op.{Op}
use Rattle.hv_isa.specs.declared.Op.TheVariants.{Lui, Auipc, Jal, Jalr, Beq, Bne, Blt, Bge, Bltu, Bgeu, Lb, Lh, Lw, Lbu}
use Rattle.hv_isa.specs.declared.Op.TheVariants.{Lhu, Sb, Sh, Sw, Addi, Slti, Sltiu, Xori, Ori, Andi, Slli, Srli, Srai}
use Rattle.hv_isa.specs.declared.Op.TheVariants.{Add, Sub, Sll, Slt, Sltu, Xor, Srl, Sra, Or, And, Fence, FenceI, Ecall}
use Rattle.hv_isa.specs.declared.Op.TheVariants.{Ebreak, Csrrw, Csrrs, Csrrc, Csrrwi, Csrrsi, Csrrci, Sret, Mret, Wfi}
use Rattle.hv_isa.specs.declared.Op.TheVariants.{SfenceVma, Vmenter}

-- A row's format and its fixed fields. U, J, B, I, S and R are the manual's formats, with the opcode,
-- funct3 and funct7 that are fixed in them.
pub data Shape : Type 0 where
  U : (opcode : ℕ) → Shape
  J : (opcode : ℕ) → Shape
  B : (opcode f3 : ℕ) → Shape
  I : (opcode f3 : ℕ) → Shape
  S : (opcode f3 : ℕ) → Shape
  R : (opcode f3 f7 : ℕ) → Shape
  -- I, with a shift amount in the immediate's low five bits, and f7 above it
  Shift : (opcode f3 f7 : ℕ) → Shape
  -- I, with the number of a CSR in the immediate's place; rs1 is a register or a number
  Csr : (opcode f3 : ℕ) → Shape
  -- R, with rd zero
  Pair : (opcode f3 f7 : ℕ) → Shape
  -- R, with all but rs1 fixed, f7 at zero
  One : (opcode f3 : ℕ) → Shape
  -- one word alone: R, with rd, funct3 and rs1 zero
  Whole : (opcode f7 rs2 : ℕ) → Shape

-- the table
abbrev pub row_of : Op → Shape
row_of Lui = U 0x37
row_of Auipc = U 0x17
row_of Jal = J 0x6f
row_of Jalr = I 0x67 0
row_of Beq = B 0x63 0
row_of Bne = B 0x63 1
row_of Blt = B 0x63 4
row_of Bge = B 0x63 5
row_of Bltu = B 0x63 6
row_of Bgeu = B 0x63 7
row_of Lb = I 0x03 0
row_of Lh = I 0x03 1
row_of Lw = I 0x03 2
row_of Lbu = I 0x03 4
row_of Lhu = I 0x03 5
row_of Sb = S 0x23 0
row_of Sh = S 0x23 1
row_of Sw = S 0x23 2
row_of Addi = I 0x13 0
row_of Slti = I 0x13 2
row_of Sltiu = I 0x13 3
row_of Xori = I 0x13 4
row_of Ori = I 0x13 6
row_of Andi = I 0x13 7
row_of Slli = Shift 0x13 1 0x00
row_of Srli = Shift 0x13 5 0x00
row_of Srai = Shift 0x13 5 0x20
row_of Add = R 0x33 0 0x00
row_of Sub = R 0x33 0 0x20
row_of Sll = R 0x33 1 0x00
row_of Slt = R 0x33 2 0x00
row_of Sltu = R 0x33 3 0x00
row_of Xor = R 0x33 4 0x00
row_of Srl = R 0x33 5 0x00
row_of Sra = R 0x33 5 0x20
row_of Or = R 0x33 6 0x00
row_of And = R 0x33 7 0x00
row_of Fence = I 0x0f 0
row_of FenceI = I 0x0f 1
row_of Ecall = Whole 0x73 0x00 0
row_of Ebreak = Whole 0x73 0x00 1
row_of Csrrw = Csr 0x73 1
row_of Csrrs = Csr 0x73 2
row_of Csrrc = Csr 0x73 3
row_of Csrrwi = Csr 0x73 5
row_of Csrrsi = Csr 0x73 6
row_of Csrrci = Csr 0x73 7
row_of Sret = Whole 0x73 0x08 2
row_of Mret = Whole 0x73 0x18 2
row_of Wfi = Whole 0x73 0x08 5
row_of SfenceVma = Pair 0x73 0 0x09
row_of Vmenter = One 0x0b 0

-- its rows, in the order of the table
abbrev pub ops : List Op
ops =
    Lui ∷ Auipc ∷ Jal ∷ Jalr ∷ Beq ∷ Bne ∷ Blt ∷ Bge ∷ Bltu ∷ Bgeu ∷ Lb ∷ Lh ∷ Lw ∷ Lbu ∷ Lhu ∷
    Sb ∷ Sh ∷ Sw ∷ Addi ∷ Slti ∷ Sltiu ∷ Xori ∷ Ori ∷ Andi ∷ Slli ∷ Srli ∷ Srai ∷ Add ∷ Sub ∷
    Sll ∷ Slt ∷ Sltu ∷ Xor ∷ Srl ∷ Sra ∷ Or ∷ And ∷ Fence ∷ FenceI ∷ Ecall ∷ Ebreak ∷ Csrrw ∷
    Csrrs ∷ Csrrc ∷ Csrrwi ∷ Csrrsi ∷ Csrrci ∷ Sret ∷ Mret ∷ Wfi ∷ SfenceVma ∷ Vmenter ∷ []

-- a number that an immediate of so many bits can be, as a word
abbrev pub IsImmediate : ℕ → ℕ → Type 0
IsImmediate bits imm = imm ≡ sext_of bits imm

-- The fields are in their row's ranges, and zero where the row has no such field. An immediate of a
-- branch or a jump is even, and that of U has its low 12 bits zero.
abbrev pub Fits : Shape → Instr → Type 0
Fits (U _) i = (i.rd < 32) × (i.rs1 ≡ 0) × (i.rs2 ≡ 0) × (i.imm < 2 ^ 32) × (i.imm % 4096 ≡ 0)
Fits (J _) i = (i.rd < 32) × (i.rs1 ≡ 0) × (i.rs2 ≡ 0) × IsImmediate 21 i.imm × (i.imm % 2 ≡ 0)
Fits (B _ _) i = (i.rd ≡ 0) × (i.rs1 < 32) × (i.rs2 < 32) × IsImmediate 13 i.imm × (i.imm % 2 ≡ 0)
Fits (I _ _) i = (i.rd < 32) × (i.rs1 < 32) × (i.rs2 ≡ 0) × IsImmediate 12 i.imm
Fits (S _ _) i = (i.rd ≡ 0) × (i.rs1 < 32) × (i.rs2 < 32) × IsImmediate 12 i.imm
Fits (R _ _ _) i = (i.rd < 32) × (i.rs1 < 32) × (i.rs2 < 32) × (i.imm ≡ 0)
Fits (Shift _ _ _) i = (i.rd < 32) × (i.rs1 < 32) × (i.rs2 ≡ 0) × (i.imm < 32)
Fits (Csr _ _) i = (i.rd < 32) × (i.rs1 < 32) × (i.rs2 ≡ 0) × (i.imm < 4096)
Fits (Pair _ _ _) i = (i.rd ≡ 0) × (i.rs1 < 32) × (i.rs2 < 32) × (i.imm ≡ 0)
Fits (One _ _) i = (i.rd ≡ 0) × (i.rs1 < 32) × (i.rs2 ≡ 0) × (i.imm ≡ 0)
Fits (Whole _ _ _) i = (i.rd ≡ 0) × (i.rs1 ≡ 0) × (i.rs2 ≡ 0) × (i.imm ≡ 0)

-- The word of an instruction: each field at its place. The immediate's bits lie as the manual's
-- section 2.3 shows.
abbrev pub spell : Shape → Instr → ℕ
spell (U o) i = o + i.rd * 2 ^ 7 + i.imm
spell (J o) i =
    o + i.rd * 2 ^ 7 + field_of i.imm 12 8 * 2 ^ 12 + field_of i.imm 11 1 * 2 ^ 20
    + field_of i.imm 1 10 * 2 ^ 21 + field_of i.imm 20 1 * 2 ^ 31
spell (B o f3) i =
    o + field_of i.imm 11 1 * 2 ^ 7 + field_of i.imm 1 4 * 2 ^ 8 + f3 * 2 ^ 12 + i.rs1 * 2 ^ 15
    + i.rs2 * 2 ^ 20 + field_of i.imm 5 6 * 2 ^ 25 + field_of i.imm 12 1 * 2 ^ 31
spell (I o f3) i = o + i.rd * 2 ^ 7 + f3 * 2 ^ 12 + i.rs1 * 2 ^ 15 + field_of i.imm 0 12 * 2 ^ 20
spell (S o f3) i =
    o + field_of i.imm 0 5 * 2 ^ 7 + f3 * 2 ^ 12 + i.rs1 * 2 ^ 15 + i.rs2 * 2 ^ 20
    + field_of i.imm 5 7 * 2 ^ 25
spell (R o f3 f7) i =
    o + i.rd * 2 ^ 7 + f3 * 2 ^ 12 + i.rs1 * 2 ^ 15 + i.rs2 * 2 ^ 20 + f7 * 2 ^ 25
spell (Shift o f3 f7) i =
    o + i.rd * 2 ^ 7 + f3 * 2 ^ 12 + i.rs1 * 2 ^ 15 + i.imm * 2 ^ 20 + f7 * 2 ^ 25
spell (Csr o f3) i = o + i.rd * 2 ^ 7 + f3 * 2 ^ 12 + i.rs1 * 2 ^ 15 + i.imm * 2 ^ 20
spell (Pair o f3 f7) i = o + f3 * 2 ^ 12 + i.rs1 * 2 ^ 15 + i.rs2 * 2 ^ 20 + f7 * 2 ^ 25
spell (One o f3) i = o + f3 * 2 ^ 12 + i.rs1 * 2 ^ 15
spell (Whole o f7 rs2) i = o + rs2 * 2 ^ 20 + f7 * 2 ^ 25

-- w is the word of the instruction i
pub record Row (i : Instr) (w : ℕ) : Type 0 where
  pub fits : Fits (row_of i.op) i
  pub word : w ≡ spell (row_of i.op) i

-- the numbers of registers are below 32
pub record NamesRegs (i : Instr) : Type 0 where
  pub rd : i.rd < 32
  pub rs1 : i.rs1 < 32
  pub rs2 : i.rs2 < 32

-- the fields in which a row has a fixed value; the others are free
pub record Fixed : Type 0 where
  pub opcode : ℕ
  pub rd : Option ℕ
  pub f3 : Option ℕ
  pub rs1 : Option ℕ
  pub rs2 : Option ℕ
  pub f7 : Option ℕ

-- those of a row's format
abbrev pub fixed_of : Shape → Fixed
fixed_of (U o) = record { opcode = o; rd = None; f3 = None; rs1 = None; rs2 = None; f7 = None }
fixed_of (J o) = record { opcode = o; rd = None; f3 = None; rs1 = None; rs2 = None; f7 = None }
fixed_of (B o f3) = record { opcode = o; rd = None; f3 = Some f3; rs1 = None; rs2 = None; f7 = None }
fixed_of (I o f3) = record { opcode = o; rd = None; f3 = Some f3; rs1 = None; rs2 = None; f7 = None }
fixed_of (S o f3) = record { opcode = o; rd = None; f3 = Some f3; rs1 = None; rs2 = None; f7 = None }
fixed_of (R o f3 f7) =
    record { opcode = o; rd = None; f3 = Some f3; rs1 = None; rs2 = None; f7 = Some f7 }
fixed_of (Shift o f3 f7) =
    record { opcode = o; rd = None; f3 = Some f3; rs1 = None; rs2 = None; f7 = Some f7 }
fixed_of (Csr o f3) = record { opcode = o; rd = None; f3 = Some f3; rs1 = None; rs2 = None; f7 = None }
fixed_of (Pair o f3 f7) =
    record { opcode = o; rd = Some 0; f3 = Some f3; rs1 = None; rs2 = None; f7 = Some f7 }
fixed_of (One o f3) =
    record { opcode = o; rd = Some 0; f3 = Some f3; rs1 = None; rs2 = Some 0; f7 = Some 0 }
fixed_of (Whole o f7 rs2) =
    record { opcode = o; rd = Some 0; f3 = Some 0; rs1 = Some 0; rs2 = Some rs2; f7 = Some f7 }

-- a field is as it is fixed, if it is
abbrev pub agrees : Option ℕ → ℕ → Bool
agrees None v = true
agrees (Some x) v = v == x

-- the six fields of a word are as a row has them fixed
abbrev pub is_at : Fixed → ℕ → ℕ → ℕ → ℕ → ℕ → ℕ → Bool
is_at f opcode rd f3 rs1 rs2 f7 =
    opcode == f.opcode && agrees f.f3 f3 && agrees f.f7 f7 && agrees f.rd rd && agrees f.rs1 rs1
    && agrees f.rs2 rs2

-- the row has the word
abbrev pub has_word : Shape → ℕ → Bool
has_word s w =
    is_at (fixed_of s) (field_of w 0 7) (field_of w 7 5) (field_of w 12 3) (field_of w 15 5)
    (field_of w 20 5) (field_of w 25 7)

-- the immediates of the formats I, S, B, U and J (Unprivileged ISA, section 2.3)
abbrev pub i_immediate : ℕ → ℕ
i_immediate w = sext_of 12 (field_of w 20 12)

abbrev pub s_immediate : ℕ → ℕ
s_immediate w = sext_of 12 (field_of w 7 5 + field_of w 25 7 * 2 ^ 5)

abbrev pub b_immediate : ℕ → ℕ
b_immediate w =
    sext_of 13
    (field_of w 8 4 * 2 + field_of w 25 6 * 2 ^ 5 + field_of w 7 1 * 2 ^ 11 + field_of w 31 1 * 2 ^ 12)

abbrev pub u_immediate : ℕ → ℕ
u_immediate w = field_of w 12 20 * 2 ^ 12

abbrev pub j_immediate : ℕ → ℕ
j_immediate w =
    sext_of 21
    (field_of w 21 10 * 2 + field_of w 20 1 * 2 ^ 11 + field_of w 12 8 * 2 ^ 12 + field_of w 31 1 * 2 ^ 20)

-- the fields of a word that has that shape, as an instruction
abbrev pub fields_of : Shape → Op → ℕ → Instr
fields_of (U _) op w =
    record { op = op; rd = field_of w 7 5; rs1 = 0; rs2 = 0; imm = u_immediate w }
fields_of (J _) op w = record {
  op = op;
  rd = field_of w 7 5;
  rs1 = 0;
  rs2 = 0;
  imm = j_immediate w;
}
fields_of (B _ _) op w = record {
  op = op;
  rd = 0;
  rs1 = field_of w 15 5;
  rs2 = field_of w 20 5;
  imm = b_immediate w;
}
fields_of (I _ _) op w = record {
  op = op;
  rd = field_of w 7 5;
  rs1 = field_of w 15 5;
  rs2 = 0;
  imm = i_immediate w;
}
fields_of (S _ _) op w = record {
  op = op;
  rd = 0;
  rs1 = field_of w 15 5;
  rs2 = field_of w 20 5;
  imm = s_immediate w;
}
fields_of (R _ _ _) op w = record {
  op = op;
  rd = field_of w 7 5;
  rs1 = field_of w 15 5;
  rs2 = field_of w 20 5;
  imm = 0;
}
fields_of (Shift _ _ _) op w = record {
  op = op;
  rd = field_of w 7 5;
  rs1 = field_of w 15 5;
  rs2 = 0;
  imm = field_of w 20 5;
}
fields_of (Csr _ _) op w = record {
  op = op;
  rd = field_of w 7 5;
  rs1 = field_of w 15 5;
  rs2 = 0;
  imm = field_of w 20 12;
}
fields_of (Pair _ _ _) op w =
    record { op = op; rd = 0; rs1 = field_of w 15 5; rs2 = field_of w 20 5; imm = 0 }
fields_of (One _ _) op w = record { op = op; rd = 0; rs1 = field_of w 15 5; rs2 = 0; imm = 0 }
fields_of (Whole _ _ _) op w = record { op = op; rd = 0; rs1 = 0; rs2 = 0; imm = 0 }

-- the row that has the word, if any has
abbrev pub op_of : ℕ → Option Op
op_of w = find (λ op. has_word (row_of op) w) ops

-- the instruction of a word, if it is the word of one
unfoldable pub decode_of : ℕ → Option Instr
decode_of w = option_map (λ op. fields_of (row_of op) op w) (op_of w)
