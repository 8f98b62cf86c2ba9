-- The words of a line: each operation's form, with its faults in the order of the tests.
use Rattle.std.specs.Prelude.{ℕ, List, [], ◌∷◌, Option, Some, None, Result, Ok, Err}
use Rattle.hv_isa.specs.Csrs.{csr_number_of}
use Rattle.hv_isa.specs.Table.{row_of}
use Rattle.hv_isa.specs.declared.Op.{Op}
use Rattle.hv_isa.specs.declared.Op.TheVariants as op
use Rattle.hv_lex.specs.declared.Token.{Token}
use Rattle.hv_asm.specs.Amounts.{distance, within, word_of}
use Rattle.hv_asm.specs.Forms.{form_of, ranged, word_with}
use Rattle.hv_asm.specs.Names.{register_of}
use Rattle.hv_asm.specs.Operands.{text_of}
use Rattle.hv_asm.specs.declared.AsmKind.{AsmKind}
use Rattle.hv_asm.specs.declared.AsmKind.TheVariants as fault
use Rattle.hv_asm.specs.declared.amounts.Amount.{Amount}
use Rattle.hv_asm.specs.declared.amounts.Amount.TheVariants.{Plus}
use Rattle.hv_asm.specs.declared.forms.Form.{Form}
use Rattle.hv_asm.specs.declared.forms.Form.TheVariants as form
use Rattle.hv_asm.specs.declared.labels.Place.{Place}
use Rattle.hv_asm.specs.declared.operands.Operand.{Operand}
use Rattle.hv_asm.specs.declared.operands.Operand.TheVariants.{Name, Number, Based}
use Rattle.hv_lex.specs.Refusing.{◌>>=◌}

-- what is there, or a refusal
abbrev pub or_fault : {A : Type 0} → AsmKind → Option A → Result A AsmKind
or_fault kind (Some x) = Ok x
or_fault kind None = Err kind

-- the register that a token names
unfoldable pub register_at : List ℕ → Token → Result ℕ AsmKind
register_at line t = or_fault fault.Operand (register_of (text_of line t))

-- the register that an operand names
unfoldable pub register : List ℕ → Operand → Result ℕ AsmKind
register line (Name t) = register_at line t
register line (Number a) = Err fault.Operand
register line (Based a t) = Err fault.Operand

-- the number that an operand is
unfoldable pub number : Operand → Result Amount AsmKind
number (Number a) = Ok a
number (Name t) = Err fault.Operand
number (Based a t) = Err fault.Operand

-- a control and status register, by name or by number
unfoldable pub csr : List ℕ → Operand → Result Amount AsmKind
csr line (Name t) = or_fault fault.Operand (csr_number_of (text_of line t)) >>= λ n. Ok (Plus n)
csr line (Number a) = Ok a
csr line (Based a t) = Err fault.Operand

-- the address of a label
unfoldable pub address : (List ℕ → Option Place) → List ℕ → Token → Result ℕ AsmKind
address find line t = or_fault fault.Label (find (text_of line t)) >>= λ place. Ok place.at

-- how far a target is from the instruction at this address
unfoldable pub target : (List ℕ → Option Place) → ℕ → List ℕ → Operand → Result Amount AsmKind
target find at line (Name t) = address find line t >>= λ to. Ok (distance at to)
target find at line (Number a) = Ok a
target find at line (Based a t) = Err fault.Operand

-- rd, rs1, rs2
unfoldable pub registers_word : List ℕ → Op → List Operand → Result ℕ AsmKind
registers_word line op (a ∷ b ∷ c ∷ []) =
    register line a >>= λ rd. register line b >>= λ rs1. register line c >>= λ rs2. word_with op rd rs1 rs2 (Plus 0)
registers_word line op _ = Err fault.Operand

-- rd, rs1 and a number
unfoldable pub immediate_word : List ℕ → Op → List Operand → Result ℕ AsmKind
immediate_word line op (a ∷ b ∷ n ∷ []) =
    register line a >>= λ rd. register line b >>= λ rs1. number n >>= λ imm. word_with op rd rs1 0 imm
immediate_word line op _ = Err fault.Operand

-- rd, and a number with rs1
unfoldable pub load_word : List ℕ → Op → List Operand → Result ℕ AsmKind
load_word line op (a ∷ Based imm t ∷ []) =
    register line a >>= λ rd. register_at line t >>= λ rs1. word_with op rd rs1 0 imm
load_word line op _ = Err fault.Operand

-- rs2, and a number with rs1
unfoldable pub store_word : List ℕ → Op → List Operand → Result ℕ AsmKind
store_word line op (a ∷ Based imm t ∷ []) =
    register line a >>= λ rs2. register_at line t >>= λ rs1. word_with op 0 rs1 rs2 imm
store_word line op _ = Err fault.Operand

-- rs1, rs2 and a target
unfoldable pub branch_word : (List ℕ → Option Place) → ℕ → List ℕ → Op → List Operand → Result ℕ AsmKind
branch_word find at line op (a ∷ b ∷ to ∷ []) =
    register line a >>= λ rs1. register line b >>= λ rs2. target find at line to >>= λ offset.
    word_with op 0 rs1 rs2 offset
branch_word find at line op _ = Err fault.Operand

-- a branch that compares with zero
unfoldable pub zero_word : (List ℕ → Option Place) → ℕ → List ℕ → Op → List Operand → Result ℕ AsmKind
zero_word find at line op (a ∷ to ∷ []) =
    register line a >>= λ rs1. target find at line to >>= λ offset. word_with op 0 rs1 0 offset
zero_word find at line op _ = Err fault.Operand

-- rd and a target
unfoldable pub jump_word : (List ℕ → Option Place) → ℕ → List ℕ → List Operand → Result ℕ AsmKind
jump_word find at line (a ∷ to ∷ []) =
    register line a >>= λ rd. target find at line to >>= λ offset. word_with op.Jal rd 0 0 offset
jump_word find at line _ = Err fault.Operand

-- a jump that keeps no return address
unfoldable pub plain_jump_word : (List ℕ → Option Place) → ℕ → List ℕ → List Operand → Result ℕ AsmKind
plain_jump_word find at line (to ∷ []) = target find at line to >>= λ offset. word_with op.Jal 0 0 0 offset
plain_jump_word find at line _ = Err fault.Operand

-- rd and the bits 31 to 12
unfoldable pub upper_word : List ℕ → Op → List Operand → Result ℕ AsmKind
upper_word line op (a ∷ n ∷ []) = register line a >>= λ rd. number n >>= λ imm. word_with op rd 0 0 imm
upper_word line op _ = Err fault.Operand

-- rd, a control and status register, rs1
unfoldable pub csr_register_word : List ℕ → Op → List Operand → Result ℕ AsmKind
csr_register_word line op (a ∷ b ∷ c ∷ []) =
    register line a >>= λ rd. csr line b >>= λ imm. register line c >>= λ rs1. word_with op rd rs1 0 imm
csr_register_word line op _ = Err fault.Operand

-- the number that stands in the place of rs1
unfoldable pub small : Amount → Result ℕ AsmKind
small n = ranged (within 32 n) (word_of n)

-- rd, a control and status register, and a number in the place of rs1
unfoldable pub csr_number_word : List ℕ → Op → List Operand → Result ℕ AsmKind
csr_number_word line op (a ∷ b ∷ n ∷ []) =
    register line a >>= λ rd. csr line b >>= λ imm. number n >>= λ value. small value >>= λ rs1.
    word_with op rd rs1 0 imm
csr_number_word line op _ = Err fault.Operand

-- rs1, rs2
unfoldable pub sources_word : List ℕ → Op → List Operand → Result ℕ AsmKind
sources_word line op (a ∷ b ∷ []) =
    register line a >>= λ rs1. register line b >>= λ rs2. word_with op 0 rs1 rs2 (Plus 0)
sources_word line op _ = Err fault.Operand

-- rs1
unfoldable pub source_word : List ℕ → Op → List Operand → Result ℕ AsmKind
source_word line op (a ∷ []) = register line a >>= λ rs1. word_with op 0 rs1 0 (Plus 0)
source_word line op _ = Err fault.Operand

-- the whole word of a row without operands: a fence orders everything (Unprivileged ISA, section 2.7)
unfoldable pub bare_word : Op → List Operand → Result ℕ AsmKind
bare_word op.Fence [] = Ok 0x0FF0000F
bare_word op.FenceI [] = Ok 0x0000100F
bare_word op [] = word_with op 0 0 0 (Plus 0)
bare_word op _ = Err fault.Operand

-- the word of an instruction by its form
unfoldable pub form_word : (List ℕ → Option Place) → ℕ → List ℕ → Op → Form → List Operand → Result ℕ AsmKind
form_word find at line op form.Registers operands = registers_word line op operands
form_word find at line op form.Immediate operands = immediate_word line op operands
form_word find at line op form.ShiftAmount operands = immediate_word line op operands
form_word find at line op form.Load operands = load_word line op operands
form_word find at line op form.Store operands = store_word line op operands
form_word find at line op form.Branch operands = branch_word find at line op operands
form_word find at line op form.Jump operands = jump_word find at line operands
form_word find at line op form.Upper operands = upper_word line op operands
form_word find at line op form.CsrRegister operands = csr_register_word line op operands
form_word find at line op form.CsrNumber operands = csr_number_word line op operands
form_word find at line op form.Sources operands = sources_word line op operands
form_word find at line op form.Source operands = source_word line op operands
form_word find at line op form.Bare operands = bare_word op operands

-- the word of an instruction of the table
abbrev pub row_word : (List ℕ → Option Place) → ℕ → List ℕ → Op → List Operand → Result ℕ AsmKind
row_word find at line op operands = form_word find at line op (form_of (row_of op)) operands
