-- The words of an operation, and of a line.
use Rattle.std.specs.Prelude.{ℕ, ◌+◌, ◌-◌, ◌/◌, ◌%◌, ◌^◌, ◌==◌, ◌&&◌, nat_lt, nat_le, is_some, List, [], ◌∷◌, length}
use Rattle.std.specs.Prelude.{Bool, true, false, if◌then◌else◌, Option, Result, Ok, Err, replicate}
use Rattle.std.specs.List.{list_all}
use Rattle.hv_isa.specs.declared.Op.{Op}
use Rattle.hv_isa.specs.declared.Op.TheVariants as op
use Rattle.hv_asm.specs.Amounts.{word_of}
use Rattle.hv_asm.specs.Forms.{ranged, word_with}
use Rattle.hv_asm.specs.Limits.{space_limit}
use Rattle.hv_asm.specs.Operands.{text_of}
use Rattle.hv_asm.specs.Rows.{address, csr, number, plain_jump_word, register, row_word, zero_word}
use Rattle.hv_asm.specs.declared.AsmKind.{AsmKind}
use Rattle.hv_asm.specs.declared.AsmKind.TheVariants as fault
use Rattle.hv_asm.specs.declared.amounts.Amount.{Amount}
use Rattle.hv_asm.specs.declared.amounts.Amount.TheVariants.{Plus, Minus}
use Rattle.hv_asm.specs.declared.labels.Place.{Place}
use Rattle.hv_asm.specs.declared.names.Operation.{Operation}
use Rattle.hv_asm.specs.declared.names.Operation.TheVariants as does
use Rattle.hv_asm.specs.declared.operands.Operand.{Operand}
use Rattle.hv_asm.specs.declared.operands.Operand.TheVariants.{Name, Number, Based}
use Rattle.hv_lex.specs.Refusing.{◌>>=◌}

-- a word given by a number, from -2 ^ 31 to 2 ^ 32 - 1
unfoldable pub value : Amount → Result ℕ AsmKind
value (Plus n) = ranged (nat_lt n (2 ^ 32)) n
value (Minus n) = ranged (nat_le n (2 ^ 31)) (word_of (Minus n))

-- the low 12 bits as a signed number
unfoldable pub low_part : ℕ → Amount
low_part v = if nat_lt (v % 4096) 2048 then Plus (v % 4096) else Minus (4096 - v % 4096)

-- what is left above them, which is one more where they are negative
unfoldable pub high_part : ℕ → Amount
high_part v = Plus ((if nat_lt (v % 4096) 2048 then v / 4096 else v / 4096 + 1) % 1048576)

-- lui and addi make a word in a register
unfoldable pub pair_words : ℕ → ℕ → Result (List ℕ) AsmKind
pair_words rd v =
    word_with op.Lui rd 0 0 (high_part v) >>= λ high. word_with op.Addi rd rd 0 (low_part v) >>= λ low.
    Ok (high ∷ low ∷ [])

-- a number in a register
unfoldable pub li_words : List ℕ → List Operand → Result (List ℕ) AsmKind
li_words line (a ∷ n ∷ []) = register line a >>= λ rd. number n >>= λ amount. value amount >>= λ v. pair_words rd v
li_words line _ = Err fault.Operand

-- a label's address in a register
unfoldable pub la_words : (List ℕ → Option Place) → List ℕ → List Operand → Result (List ℕ) AsmKind
la_words find line (a ∷ Name t ∷ []) =
    register line a >>= λ rd. address find line t >>= λ to. pair_words rd (to % 2 ^ 32)
la_words find line _ = Err fault.Operand

-- an instruction of which only rs1 is given, without operands
unfoldable pub bare_short : Op → ℕ → List Operand → Result ℕ AsmKind
bare_short op rs1 [] = word_with op 0 rs1 0 (Plus 0)
bare_short op rs1 _ = Err fault.Operand

-- one register to another
unfoldable pub move_word : List ℕ → List Operand → Result ℕ AsmKind
move_word line (a ∷ b ∷ []) = register line a >>= λ rd. register line b >>= λ rs1. word_with op.Addi rd rs1 0 (Plus 0)
move_word line _ = Err fault.Operand

-- rd and a control and status register, which is read
unfoldable pub csr_read_word : List ℕ → List Operand → Result ℕ AsmKind
csr_read_word line (a ∷ b ∷ []) = register line a >>= λ rd. csr line b >>= λ imm. word_with op.Csrrs rd 0 0 imm
csr_read_word line _ = Err fault.Operand

-- a control and status register, which is written, and rs1
unfoldable pub csr_write_word : List ℕ → List Operand → Result ℕ AsmKind
csr_write_word line (a ∷ b ∷ []) = csr line a >>= λ imm. register line b >>= λ rs1. word_with op.Csrrw 0 rs1 0 imm
csr_write_word line _ = Err fault.Operand

-- the word of an operation that makes one
unfoldable pub one_word : (List ℕ → Option Place) → ℕ → List ℕ → Operation → List Operand → Result ℕ AsmKind
one_word find at line (does.Row op) operands = row_word find at line op operands
one_word find at line does.Nop operands = bare_short op.Addi 0 operands
one_word find at line does.Mv operands = move_word line operands
one_word find at line does.J operands = plain_jump_word find at line operands
one_word find at line does.Ret operands = bare_short op.Jalr 1 operands
one_word find at line does.Beqz operands = zero_word find at line op.Beq operands
one_word find at line does.Bnez operands = zero_word find at line op.Bne operands
one_word find at line does.Csrr operands = csr_read_word line operands
one_word find at line does.Csrw operands = csr_write_word line operands
one_word find at line _ operands = Err fault.Operand

-- a name or a number
abbrev pub is_value : Operand → Bool
is_value (Name t) = true
is_value (Number a) = true
is_value (Based a t) = false

-- a number, or a label that is defined
abbrev pub is_defined : (List ℕ → Option Place) → List ℕ → Operand → Bool
is_defined find line (Name t) = is_some (find (text_of line t))
is_defined find line (Number a) = true
is_defined find line (Based a t) = true

-- the word of a number or a label
unfoldable pub value_at : (List ℕ → Option Place) → List ℕ → Operand → Result ℕ AsmKind
value_at find line (Name t) = address find line t >>= λ at. Ok (at % 2 ^ 32)
value_at find line (Number a) = value a
value_at find line (Based a t) = Err fault.Operand

-- the words of numbers and labels, in order
unfoldable pub values_of : (List ℕ → Option Place) → List ℕ → List Operand → Result (List ℕ) AsmKind
values_of find line [] = Ok []
values_of find line (o ∷ os) = value_at find line o >>= λ w. values_of find line os >>= λ ws. Ok (w ∷ ws)

-- the words of `.word`, at least one
unfoldable pub value_words : (List ℕ → Option Place) → List ℕ → List Operand → Result (List ℕ) AsmKind
value_words find line operands =
    if length operands == 0 then Err fault.Operand
    else if list_all is_value operands then
    (if list_all (is_defined find line) operands then values_of find line operands else Err fault.Label)
    else Err fault.Operand

-- zeros, as many bytes as a multiple of 4 within the limit says
unfoldable pub space_count : List Operand → Result ℕ AsmKind
space_count (Number (Plus n) ∷ []) = ranged (nat_le n space_limit && n % 4 == 0) (n / 4)
space_count (Number (Minus n) ∷ []) = Err fault.Range
space_count _ = Err fault.Operand

-- the zeros of `.space`
abbrev pub zeros_of : List Operand → Result (List ℕ) AsmKind
zeros_of operands = space_count operands >>= λ n. Ok (replicate n 0)

-- a word alone
abbrev pub single : Result ℕ AsmKind → Result (List ℕ) AsmKind
single word = word >>= λ w. Ok (w ∷ [])

-- the words of an operation
unfoldable pub words_with : (List ℕ → Option Place) → ℕ → List ℕ → Operation → List Operand → Result (List ℕ) AsmKind
words_with find at line does.Li operands = li_words line operands
words_with find at line does.La operands = la_words find line operands
words_with find at line does.Words operands = value_words find line operands
words_with find at line does.Space operands = zeros_of operands
words_with find at line operation operands = single (one_word find at line operation operands)
