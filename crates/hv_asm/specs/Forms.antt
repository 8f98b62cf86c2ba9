-- The forms in which the operands of an instruction are written, and the words that they make.
use Rattle.std.specs.Prelude.{◌≡◌, ◌<◌, ℕ, ◌*◌, ◌==◌, ◌&&◌, nat_lt, Bool, if◌then◌else◌, Result, Ok, Err}
use Rattle.hv_isa.specs.Table.{Shape, U, J, B, I, S, R, Shift, Csr, Pair, One, Whole, row_of, spell}
use Rattle.hv_isa.specs.declared.Op.{Op}
use Rattle.hv_asm.specs.Amounts.{within, within_signed, is_even, word_of}
use Rattle.hv_asm.specs.declared.AsmKind.{AsmKind}
use Rattle.hv_asm.specs.declared.AsmKind.TheVariants as fault
use Rattle.hv_asm.specs.declared.amounts.Amount.{Amount}
use Rattle.hv_asm.specs.declared.forms.Form.{Form}
use Rattle.hv_asm.specs.declared.forms.Form.TheVariants.{Registers, Immediate, ShiftAmount, Load, Store, Branch, Jump}
use Rattle.hv_asm.specs.declared.forms.Form.TheVariants.{Upper, CsrRegister, CsrNumber, Sources, Source, Bare}
use Rattle.hv_lex.specs.Refusing.{◌>>=◌}

-- the form of a row of the instruction table
abbrev pub form_of : Shape → Form
form_of (U _) = Upper
form_of (J _) = Jump
form_of (B _ _) = Branch
form_of (I opcode _) = if opcode == 0x13 then Immediate else if opcode == 0x0f then Bare else Load
form_of (S _ _) = Store
form_of (R _ _ _) = Registers
form_of (Shift _ _ _) = ShiftAmount
form_of (Csr _ f3) = if nat_lt f3 4 then CsrRegister else CsrNumber
form_of (Pair _ _ _) = Sources
form_of (One _ _) = Source
form_of (Whole _ _ _) = Bare

-- a number, if it is in its range
abbrev pub ranged : Bool → ℕ → Result ℕ AsmKind
ranged inside n = if inside then Ok n else Err fault.Range

-- the immediate that a number gives in a form
unfoldable pub immediate_of : Form → Amount → Result ℕ AsmKind
immediate_of Immediate a = ranged (within_signed 2048 a) (word_of a)
immediate_of Load a = ranged (within_signed 2048 a) (word_of a)
immediate_of Store a = ranged (within_signed 2048 a) (word_of a)
immediate_of Branch a = ranged (within_signed 4096 a && is_even a) (word_of a)
immediate_of Jump a = ranged (within_signed 1048576 a && is_even a) (word_of a)
immediate_of Upper a = ranged (within 1048576 a) (word_of a * 4096)
immediate_of ShiftAmount a = ranged (within 32 a) (word_of a)
immediate_of CsrRegister a = ranged (within 4096 a) (word_of a)
immediate_of CsrNumber a = ranged (within 4096 a) (word_of a)
immediate_of Registers a = Ok 0
immediate_of Sources a = Ok 0
immediate_of Source a = Ok 0
immediate_of Bare a = Ok 0

-- the registers that a form has are registers, and the others are zero
abbrev pub UsesRegisters : Form → (rd rs1 rs2 : ℕ) → Type 0
UsesRegisters Registers rd rs1 rs2 = (rd < 32) × (rs1 < 32) × (rs2 < 32)
UsesRegisters Immediate rd rs1 rs2 = (rd < 32) × (rs1 < 32) × (rs2 ≡ 0)
UsesRegisters ShiftAmount rd rs1 rs2 = (rd < 32) × (rs1 < 32) × (rs2 ≡ 0)
UsesRegisters Load rd rs1 rs2 = (rd < 32) × (rs1 < 32) × (rs2 ≡ 0)
UsesRegisters Store rd rs1 rs2 = (rd ≡ 0) × (rs1 < 32) × (rs2 < 32)
UsesRegisters Branch rd rs1 rs2 = (rd ≡ 0) × (rs1 < 32) × (rs2 < 32)
UsesRegisters Jump rd rs1 rs2 = (rd < 32) × (rs1 ≡ 0) × (rs2 ≡ 0)
UsesRegisters Upper rd rs1 rs2 = (rd < 32) × (rs1 ≡ 0) × (rs2 ≡ 0)
UsesRegisters CsrRegister rd rs1 rs2 = (rd < 32) × (rs1 < 32) × (rs2 ≡ 0)
UsesRegisters CsrNumber rd rs1 rs2 = (rd < 32) × (rs1 < 32) × (rs2 ≡ 0)
UsesRegisters Sources rd rs1 rs2 = (rd ≡ 0) × (rs1 < 32) × (rs2 < 32)
UsesRegisters Source rd rs1 rs2 = (rd ≡ 0) × (rs1 < 32) × (rs2 ≡ 0)
UsesRegisters Bare rd rs1 rs2 = (rd ≡ 0) × (rs1 ≡ 0) × (rs2 ≡ 0)

-- the word of an instruction with this number
unfoldable pub word_with : Op → (rd rs1 rs2 : ℕ) → Amount → Result ℕ AsmKind
word_with op rd rs1 rs2 a =
    immediate_of (form_of (row_of op)) a
    >>= λ imm. Ok (spell (row_of op) (record { op = op; rd = rd; rs1 = rs1; rs2 = rs2; imm = imm }))
