-- What the operands of a line say, and the words that its operation makes of them.
use Rattle.std.specs.Prelude.{ℕ, ◌≡◌, ◌⊎◌, ◌+◌, ◌*◌, ◌%◌, ◌^◌, ◌<◌, ◌≤◌, ℤ, pos, ◌-ℤ◌, List, [], ◌∷◌, length}
use Rattle.std.specs.Prelude.{replicate, fold, Option, Some}
use Rattle.std.specs.List.{AllZip}
use Rattle.hv_word.specs.Words.{signed_of}
use Rattle.hv_isa.specs.Csrs.{csr_number_of}
use Rattle.hv_isa.specs.Table.{decode_of}
use Rattle.hv_isa.specs.declared.Instr.{Instr}
use Rattle.hv_isa.specs.declared.Op.TheVariants as op
use Rattle.hv_lex.specs.declared.Token.{Token}
use Rattle.hv_lex.specs.declared.Kind.TheVariants.{Name, Number, Open, Close}
use Rattle.hv_asm.specs.Limits.{space_limit}
use Rattle.hv_asm.specs.Names.{register_of}
use Rattle.hv_asm.specs.Operands.{text_of}
use Rattle.hv_asm.specs.declared.names.Operation.{Operation}
use Rattle.hv_asm.specs.declared.names.Operation.TheVariants.{Row, Nop, Mv, J, Ret, Beqz, Bnez, Csrr, Csrw, Li, La}
use Rattle.hv_asm.specs.declared.names.Operation.TheVariants.{Words, Space}
use Rattle.hv_asm.specs.Roles.{Role, Rd, Rs1, Rs2, Immediate, Upper, Based, Target, Control, Small, roles_of, plain}
use Rattle.hv_asm.specs.Roles.{rest_of, without}

-- the labels that are defined, and their addresses
abbrev pub Addresses : Type 0
Addresses = List ℕ → Option ℕ

-- a number
abbrev pub IsNumber : Token → ℤ → Type 0
IsNumber t z = t.kind ≡ Number z

-- a label that is defined, and its address
abbrev pub IsLabel : (labels : Addresses) → List ℕ → Token → ℕ → Type 0
IsLabel labels line t at = (t.kind ≡ Name) × (labels (text_of line t) ≡ Some at)

-- a register by its name, and its number
abbrev pub IsRegister : List ℕ → Token → ℕ → Type 0
IsRegister line t n = (t.kind ≡ Name) × (register_of (text_of line t) ≡ Some n)

-- a control and status register by its name, or by its number
abbrev pub IsControl : List ℕ → Token → ℕ → Type 0
IsControl line t n = ((t.kind ≡ Name) × (csr_number_of (text_of line t) ≡ Some n)) ⊎ IsNumber t (pos n)

-- how far it is from the line's address: to a label's address, or what a number says
abbrev pub IsTarget : (labels : Addresses) → (at : ℕ) → List ℕ → Token → ℕ → Type 0
IsTarget labels at line t offset =
    ((to : ℕ) × IsLabel labels line t to × (signed_of offset ≡ pos to -ℤ pos at)) ⊎ IsNumber t (signed_of offset)

-- a word that is a number from -2 ^ 31 to 2 ^ 32 - 1
abbrev pub IsWordValue : Token → ℕ → Type 0
IsWordValue t v = (v < 2 ^ 32) × (IsNumber t (pos v) ⊎ IsNumber t (signed_of v))

-- a word that is a label's address
abbrev pub IsAddress : (labels : Addresses) → List ℕ → Token → ℕ → Type 0
IsAddress labels line t v = (to : ℕ) × IsLabel labels line t to × (v ≡ to % 2 ^ 32)

-- an operand of one token
abbrev pub IsSingle : (Token → Type 0) → List Token → Type 0
IsSingle P (t ∷ []) = P t
IsSingle P _ = ⊥

-- a signed number, and a register in parentheses behind it
abbrev pub IsBased : List ℕ → List Token → (imm rs1 : ℕ) → Type 0
IsBased line (n ∷ left ∷ t ∷ right ∷ []) imm rs1 =
    IsNumber n (signed_of imm) × (left.kind ≡ Open) × IsRegister line t rs1 × (right.kind ≡ Close)
IsBased line _ imm rs1 = ⊥

-- the instruction has in the operand's field what the operand says
abbrev pub IsOperand : (labels : Addresses) → (at : ℕ) → List ℕ → Instr → Role → List Token → Type 0
IsOperand labels at line i Rd operand = IsSingle (λ t. IsRegister line t i.rd) operand
IsOperand labels at line i Rs1 operand = IsSingle (λ t. IsRegister line t i.rs1) operand
IsOperand labels at line i Rs2 operand = IsSingle (λ t. IsRegister line t i.rs2) operand
IsOperand labels at line i Immediate operand = IsSingle (λ t. IsNumber t (signed_of i.imm)) operand
IsOperand labels at line i Upper operand =
    IsSingle (λ t. (n : ℕ) × IsNumber t (pos n) × (n < 2 ^ 20) × (i.imm ≡ n * 2 ^ 12)) operand
IsOperand labels at line i Based operand = IsBased line operand i.imm i.rs1
IsOperand labels at line i Target operand = IsSingle (λ t. IsTarget labels at line t i.imm) operand
IsOperand labels at line i Control operand = IsSingle (λ t. IsControl line t i.imm) operand
IsOperand labels at line i Small operand = IsSingle (λ t. IsNumber t (pos i.rs1)) operand

-- One word, which decodes to the instruction whose fields the operands say; the others are as in `rest`.
pub record IsInstruction
    (labels : Addresses) (at : ℕ) (line : List ℕ)
    (roles : List Role) (rest : Instr) (operands : List (List Token)) (words : List ℕ) : Type 0 where
  pub word : ℕ
  pub instr : Instr
  pub alone : words ≡ word ∷ []
  pub decodes : decode_of word ≡ Some instr
  pub fields : AllZip (IsOperand labels at line instr) roles operands
  pub others : fold without instr roles ≡ rest

-- Two words, lui and addi, whose immediates together are the word v: they put it into the register rd.
pub record IsLoad (rd v : ℕ) (words : List ℕ) : Type 0 where
  pub high : ℕ
  pub low : ℕ
  pub first : ℕ
  pub second : ℕ
  pub both : words ≡ first ∷ second ∷ []
  pub lui : decode_of first ≡ Some (record { op = op.Lui; rd = rd; rs1 = 0; rs2 = 0; imm = high })
  pub addi : decode_of second ≡ Some (record { op = op.Addi; rd = rd; rs1 = rd; rs2 = 0; imm = low })
  pub sum : (high + low) % 2 ^ 32 ≡ v

-- one operand, of one token
abbrev pub One : (Token → Type 0) → List (List Token) → Type 0
One P (a ∷ []) = IsSingle P a
One P _ = ⊥

-- two operands of one token each
abbrev pub Two : (P Q : Token → Type 0) → List (List Token) → Type 0
Two P Q (a ∷ b ∷ []) = IsSingle P a × IsSingle Q b
Two P Q _ = ⊥

-- The words that an operation makes at an address: one of an instruction or of a short form of one (Unprivileged ISA,
-- tables 25.2 and 25.3), the two that load a register, words, or zeros.
abbrev pub Contributes : Addresses → (at : ℕ) → List ℕ → Operation → List (List Token) → List ℕ → Type 0
Contributes labels at line (Row o) operands words =
    IsInstruction labels at line (roles_of o) (rest_of o) operands words
Contributes labels at line Nop operands words = IsInstruction labels at line [] (plain op.Addi) operands words
Contributes labels at line Mv operands words =
    IsInstruction labels at line (Rd ∷ Rs1 ∷ []) (plain op.Addi) operands words
Contributes labels at line J operands words = IsInstruction labels at line (Target ∷ []) (plain op.Jal) operands words
Contributes labels at line Ret operands words =
    IsInstruction labels at line [] (record { op = op.Jalr; rd = 0; rs1 = 1; rs2 = 0; imm = 0 }) operands words
Contributes labels at line Beqz operands words =
    IsInstruction labels at line (Rs1 ∷ Target ∷ []) (plain op.Beq) operands words
Contributes labels at line Bnez operands words =
    IsInstruction labels at line (Rs1 ∷ Target ∷ []) (plain op.Bne) operands words
Contributes labels at line Csrr operands words =
    IsInstruction labels at line (Rd ∷ Control ∷ []) (plain op.Csrrs) operands words
Contributes labels at line Csrw operands words =
    IsInstruction labels at line (Control ∷ Rs1 ∷ []) (plain op.Csrrw) operands words
Contributes labels at line Li operands words =
    (rd v : ℕ) × Two (λ r. IsRegister line r rd) (λ t. IsWordValue t v) operands × IsLoad rd v words
Contributes labels at line La operands words =
    (rd v : ℕ) × Two (λ r. IsRegister line r rd) (λ t. IsAddress labels line t v) operands × IsLoad rd v words
Contributes labels at line Words operands words =
    (0 < length words) × AllZip (λ a v. IsSingle (λ t. IsAddress labels line t v ⊎ IsWordValue t v) a) operands words
Contributes labels at line Space operands words =
    (n : ℕ) × One (λ t. IsNumber t (pos (4 * n))) operands × (4 * n ≤ space_limit) × (words ≡ replicate n 0)
