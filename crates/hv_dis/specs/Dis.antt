-- A word as a line of assembly, in the notation of the Unprivileged ISA's chapter 25 (registers as x0 to x31).
use Rattle.std.specs.Prelude.{ℕ, ◌-◌, ◌/◌, ◌^◌, ◌==◌, nat_lt, Bool, true, false, if◌then◌else◌, List, [], ◌++◌}
use Rattle.std.specs.Prelude.{Option, Some, None, codes}
use Rattle.std.specs.Fmt.{decimal, radix_digits}
use Rattle.hv_text.specs.Text.{hex8}
use Rattle.hv_word.specs.Words.{field_of}
use Rattle.hv_isa.specs.Csrs.{csr_name_of}
use Rattle.hv_isa.specs.Names.{name_of}
use Rattle.hv_isa.specs.Table.{Shape, U, J, B, I, S, R, Shift, Csr, Pair, One, Whole, row_of, decode_of}
use Rattle.hv_isa.specs.declared.Instr.{Instr}
use Rattle.hv_isa.specs.declared.Op.{Op}
use Rattle.hv_isa.specs.declared.Op.TheVariants.{Fence, FenceI}

-- a register
abbrev pub register : ℕ → List ℕ
register n = codes "x" ++ decimal n

-- a word as a signed number
unfoldable pub signed : ℕ → List ℕ
signed v = if nat_lt v (2 ^ 31) then decimal v else codes "-" ++ decimal (2 ^ 32 - v)

-- lower-case hex without leading zeros
abbrev pub hex : ℕ → List ℕ
hex v = codes "0x" ++ radix_digits 16 false v

-- one of a word's eight hex digits, counted from its low end
abbrev pub digit : ℕ → ℕ → List ℕ
digit w at = radix_digits 16 false (field_of w at 4)

-- the upper four digits
unfoldable pub upper_digits : ℕ → List ℕ
upper_digits w = digit w 28 ++ digit w 24 ++ digit w 20 ++ digit w 16

-- the lower four digits
unfoldable pub lower_digits : ℕ → List ℕ
lower_digits w = digit w 12 ++ digit w 8 ++ digit w 4 ++ digit w 0

-- the line of a word that is no instruction
unfoldable pub word_line : ℕ → List ℕ
word_line w = codes ".word 0x" ++ hex8 w

-- a name, or the number where there is none
abbrev pub named : ℕ → Option (List ℕ) → List ℕ
named n (Some name) = name
named n None = hex n

-- a control and status register: its name, or its number where it has none
unfoldable pub control : ℕ → List ℕ
control n = named n (csr_name_of n)

-- rd, rs1, rs2
abbrev pub three : Instr → List ℕ
three i = codes " " ++ register i.rd ++ codes ", " ++ register i.rs1 ++ codes ", " ++ register i.rs2

-- rd, rs1 and the immediate
abbrev pub immediate : Instr → List ℕ
immediate i = codes " " ++ register i.rd ++ codes ", " ++ register i.rs1 ++ codes ", " ++ signed i.imm

-- rd, rs1 and how far it is shifted
abbrev pub shift : Instr → List ℕ
shift i = codes " " ++ register i.rd ++ codes ", " ++ register i.rs1 ++ codes ", " ++ decimal i.imm

-- rd, or what is stored, and then the offset and its base
abbrev pub based : ℕ → Instr → List ℕ
based r i = codes " " ++ register r ++ codes ", " ++ signed i.imm ++ codes "(" ++ register i.rs1 ++ codes ")"

-- rs1, rs2 and the offset of the target
abbrev pub branch : Instr → List ℕ
branch i = codes " " ++ register i.rs1 ++ codes ", " ++ register i.rs2 ++ codes ", " ++ signed i.imm

-- rd and the offset of the target
abbrev pub jump : Instr → List ℕ
jump i = codes " " ++ register i.rd ++ codes ", " ++ signed i.imm

-- rd and the bits 31 to 12
abbrev pub upper : Instr → List ℕ
upper i = codes " " ++ register i.rd ++ codes ", " ++ hex (i.imm / 2 ^ 12)

-- rd, a control and status register, and rs1 as a register or, in the rows whose funct3 is 5 to 7, as a number
abbrev pub access : Bool → Instr → List ℕ
access true i = codes " " ++ register i.rd ++ codes ", " ++ control i.imm ++ codes ", " ++ register i.rs1
access false i = codes " " ++ register i.rd ++ codes ", " ++ control i.imm ++ codes ", " ++ decimal i.rs1

-- rs1, rs2
abbrev pub pair : Instr → List ℕ
pair i = codes " " ++ register i.rs1 ++ codes ", " ++ register i.rs2

-- rs1
abbrev pub source : Instr → List ℕ
source i = codes " " ++ register i.rs1

-- What stands behind the name, by the row's form. In the format I these are the arithmetic with an immediate
-- (opcode 0x13), the fences (0x0f), which are written without their fields, and the loads and jalr.
abbrev pub operands : Shape → Instr → List ℕ
operands (U _) i = upper i
operands (J _) i = jump i
operands (B _ _) i = branch i
operands (I opcode _) i = if opcode == 0x13 then immediate i else if opcode == 0x0f then [] else based i.rd i
operands (S _ _) i = based i.rs2 i
operands (R _ _ _) i = three i
operands (Shift _ _ _) i = shift i
operands (Csr _ f3) i = access (nat_lt f3 4) i
operands (Pair _ _ _) i = pair i
operands (One _ _) i = source i
operands (Whole _ _ _) i = []

-- The name and the operands say the whole word. Of the fences only one word each is so written: `fence` orders all
-- accesses, and `fence.i` has its other fields at zero.
abbrev pub says_all : Op → ℕ → Bool
says_all Fence w = w == 0x0ff0000f
says_all FenceI w = w == 0x0000100f
says_all _ w = true

-- the line of an instruction
unfoldable pub instr_line : Instr → List ℕ
instr_line i = name_of i.op ++ operands (row_of i.op) i

-- the line of a word from what it decodes to
abbrev pub line_of : ℕ → Option Instr → List ℕ
line_of w (Some i) = if says_all i.op w then instr_line i else word_line w
line_of w None = word_line w

-- the line of a word
unfoldable pub dis_of : ℕ → List ℕ
dis_of w = line_of w (decode_of w)
