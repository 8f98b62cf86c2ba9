-- A line of an instruction, with its parts as they are written, makes the instruction's word.
use Rattle.std.proofs.Common.{◌≡◌, ℕ, ◌+◌, ◌-◌, ◌^◌, ◌<◌, ◌≤◌, ℤ, pos, neg_ℤ, true, cond, Option, Some, None, List, [], ◌∷◌, length, take, drop, Ok, Err, Result, refl, ap, ◌∙◌, arith, ◌⊎◌}
use Rattle.std.proofs.lemmas.Bool.Decides.{nat_tests}
use Rattle.hv_isa.specs.declared.Instr.{Instr}
use Rattle.hv_isa.specs.declared.Op.{Op}
use Rattle.hv_isa.specs.Csrs.{csr_number_of}
use Rattle.hv_isa.specs.Names.{name_of}
use Rattle.hv_isa.specs.Table.{row_of, spell}
use Rattle.hv_lex.specs.Lines.{lines_of}
use Rattle.hv_lex.specs.Tokens.{tokens_at, lexed_at, pieces_of}
use Rattle.hv_lex.specs.declared.Kind.{Kind}
use Rattle.hv_lex.specs.declared.Kind.TheVariants.{Name, Number, Comma, Colon, Open, Close}
use Rattle.hv_lex.proofs.Parts.{Part, Said, Blank, CommaPart, Reads, AreParts, Unbroken, written, part_tokens, line_tokens, line_shows, one_line}
use Rattle.hv_asm.specs.Amounts.{amount_of}
use Rattle.hv_asm.specs.Assembly.{asm_of, words_from, line_words, place_of, has_room, and_then}
use Rattle.hv_asm.specs.Forms.{form_of, immediate_of, word_with}
use Rattle.hv_asm.specs.Names.{register_of, operation_of}
use Rattle.hv_asm.specs.Operands.{Reading, Work, Nothing, read_of, read_tokens, reading_of, deed_of, operands_of, operands_from, groups_of, operand_of, size_with, size_of, text_of}
use Rattle.hv_asm.specs.Rows.{register_at, register, csr, or_fault, form_word}
use Rattle.hv_asm.specs.Words.{words_with, one_word, single}
use Rattle.hv_asm.specs.declared.AsmKind.{AsmKind}
use Rattle.hv_asm.specs.declared.AsmKind.TheVariants as fault
use Rattle.hv_asm.specs.declared.amounts.Amount.{Amount}
use Rattle.hv_asm.specs.declared.amounts.Amount.TheVariants.{Plus}
use Rattle.hv_asm.specs.declared.forms.Form.{Form}
use Rattle.hv_asm.specs.declared.labels.Place.{Place}
use Rattle.hv_asm.specs.declared.names.Operation.{Operation}
use Rattle.hv_asm.specs.declared.names.Operation.TheVariants.{Row}
use Rattle.hv_asm.specs.declared.operands.Operand.{Operand}
use Rattle.hv_asm.specs.declared.operands.Operand.TheVariants as operand
use Rattle.hv_asm.proofs.Naming.{operation_again}
use Rattle.hv_asm.proofs.Telling.{Answer}
use Rattle.hv_lex.specs.Refusing.{◌>>=◌}

-- the answers to a line
abbrev Word : Type 0
Word = Result ℕ AsmKind

-- a line of an operation that makes one word
has_place : (base : ℕ) → base + 4 ≤ 2 ^ 32 → has_room base (base + 4) ≡ true
has_place base room = grind (arith, nat_tests)

worked_line : (line : List ℕ) (operation : Operation) (operands : List Operand) (base w : ℕ) → lines_of line ≡ line ∷ [] → read_of line ≡ record { label = None; deed = Work (Some operation) operands } → size_with operation operands ≡ 4 → base + 4 ≤ 2 ^ 32 → ((find : List ℕ → Option Place) → words_with find base line operation operands ≡ Ok (w ∷ [])) → asm_of line base ≡ Ok (w ∷ [])
unfolding asm_of words_from line_words size_of
worked_line line operation operands base w one reads size room words =
    let find = place_of base (line ∷ []) in
    let none : Answer = Ok [] in
    let fits = λ (n : ℕ) (ws : List ℕ). cond {A = Result (List ℕ) AsmKind} (has_room base (base + n)) (Ok ws) (Err fault.Range) in
    ap (λ lines. words_from (place_of base lines) base 1 base lines) one
    ∙ ap (λ (r : Reading). and_then 1 (line_words find base 1 base line r) none) reads
    ∙ ap (λ (r : Result (List ℕ) AsmKind). and_then 1 (r >>= fits (size_with operation operands)) none) (words find)
    ∙ ap (λ n. and_then 1 (fits n (w ∷ [])) none) size
    ∙ ap (λ b. and_then 1 (cond {A = Result (List ℕ) AsmKind} b (Ok (w ∷ [])) (Err fault.Range)) none) (has_place base room)

no_work : (operation : Operation) (operands : List Operand) → read_of [] ≡ record { label = None; deed = Work (Some operation) operands } → ⊥
unfolding read_of lexed_at tokens_at pieces_of reading_of deed_of
no_work operation operands is = let e : Nothing ≡ Work (Some operation) operands = ap (λ (r : Reading). r.deed) is in cc

pub line_word : (line : List ℕ) (operation : Operation) (operands : List Operand) (base w : ℕ) → Unbroken line → read_of line ≡ record { label = None; deed = Work (Some operation) operands } → size_with operation operands ≡ 4 → base + 4 ≤ 2 ^ 32 → ((find : List ℕ → Option Place) → words_with find base line operation operands ≡ Ok (w ∷ [])) → asm_of line base ≡ Ok (w ∷ [])
line_word [] operation operands base w whole reads size room words = absurd (no_work operation operands reads)
line_word (c ∷ cs) operation operands base w whole reads size room words =
    worked_line (c ∷ cs) operation operands base w (one_line c cs whole) reads size room words

-- the word of a row, by its form
pub row_words : (find : List ℕ → Option Place) (at : ℕ) (line : List ℕ) (op : Op) (operands : List Operand) (f : Form) (w : ℕ) → form_of (row_of op) ≡ f → form_word find at line op f operands ≡ Ok w → words_with find at line (Row op) operands ≡ Ok (w ∷ [])
unfolding words_with one_word
row_words find at line op operands f w is word =
    ap (λ f. single (form_word find at line op f operands)) is ∙ ap single word

-- an instruction from its fields
abbrev pub instr : Op → (rd rs1 rs2 imm : ℕ) → Instr
instr op rd rs1 rs2 imm = record { op = op; rd = rd; rs1 = rs1; rs2 = rs2; imm = imm }

pub word_is : (op : Op) (f : Form) (rd rs1 rs2 imm : ℕ) (a : Amount) → form_of (row_of op) ≡ f → immediate_of f a ≡ Ok imm → word_with op rd rs1 rs2 a ≡ Ok (spell (row_of op) (instr op rd rs1 rs2 imm))
unfolding word_with
word_is op f rd rs1 rs2 imm a is given =
    let make = λ (imm : ℕ). let w : Word = Ok (spell (row_of op) (instr op rd rs1 rs2 imm)) in w in
    ap (λ f. immediate_of f a >>= make) is ∙ ap (λ (r : Word). r >>= make) given

-- an operand that is a name or a number
abbrev pub operand_at : ℕ → List ℕ → Kind → Operand
operand_at at text (Number z) = operand.Number (amount_of z)
operand_at at text Name = operand.Name (record { start = at; end = at + length text; kind = Name })
operand_at at text Comma = operand.Name (record { start = at; end = at + length text; kind = Comma })
operand_at at text Colon = operand.Name (record { start = at; end = at + length text; kind = Colon })
operand_at at text Open = operand.Name (record { start = at; end = at + length text; kind = Open })
operand_at at text Close = operand.Name (record { start = at; end = at + length text; kind = Close })

abbrev pub IsPlain : Kind → Type 0
IsPlain Name = Unit {0}
IsPlain (Number z) = Unit {0}
IsPlain Comma = ⊥
IsPlain Colon = ⊥
IsPlain Open = ⊥
IsPlain Close = ⊥

-- a name of a register
pub record IsRegister (text : List ℕ) (n : ℕ) : Type 0 where
  pub reads : Reads text Name
  pub is : register_of text ≡ Some n

-- a name or a number of a control and status register
abbrev pub IsControlAs : List ℕ → ℕ → Kind → Type 0
IsControlAs text n Name = csr_number_of text ≡ Some n
IsControlAs text n (Number z) = z ≡ pos n
IsControlAs text n Comma = ⊥
IsControlAs text n Colon = ⊥
IsControlAs text n Open = ⊥
IsControlAs text n Close = ⊥

pub record IsControl (text : List ℕ) (kind : Kind) (n : ℕ) : Type 0 where
  pub reads : Reads text kind
  pub is : IsControlAs text n kind

-- a number that is a word as a signed number
abbrev pub IsSigned : ℤ → ℕ → Type 0
IsSigned z v = ((z ≡ pos v) × (v < 2 ^ 31)) ⊎ ((z ≡ neg_ℤ (pos (2 ^ 32 - v))) × (2 ^ 31 ≤ v) × (v < 2 ^ 32))

pub register_shown : (line text : List ℕ) (at n : ℕ) → drop at (take (at + length text) line) ≡ text → register_of text ≡ Some n → register line (operand_at at text Name) ≡ Ok n
unfolding register register_at
register_shown line text at n shown is =
    ap (λ text. or_fault fault.Operand (register_of text)) shown ∙ ap (or_fault fault.Operand) is

pub csr_shown : (line text : List ℕ) (kind : Kind) (at n : ℕ) → drop at (take (at + length text) line) ≡ text → IsControlAs text n kind → csr line (operand_at at text kind) ≡ Ok (Plus n)
unfolding csr
csr_shown line text Name at n shown is =
    ap (λ text. or_fault fault.Operand (csr_number_of text) >>= λ n. Ok (Plus n)) shown
    ∙ ap (λ o. or_fault fault.Operand o >>= λ n. Ok (Plus n)) is
csr_shown line text (Number z) at n shown is = ap (λ z. Ok (amount_of z)) is
csr_shown line text Comma at n shown is = absurd is
csr_shown line text Colon at n shown is = absurd is
csr_shown line text Open at n shown is = absurd is
csr_shown line text Close at n shown is = absurd is

-- three operands
abbrev pub behind_three : List ℕ → List ℕ → Kind → List ℕ → Kind → List Part
behind_three a b j c k = Blank ∷ Said a Name ∷ CommaPart ∷ Blank ∷ Said b j ∷ CommaPart ∷ Blank ∷ Said c k ∷ []

abbrev pub three : Op → List ℕ → List ℕ → Kind → List ℕ → Kind → List Part
three op a b j c k = Said (name_of op) Name ∷ behind_three a b j c k

abbrev pub second : Op → List ℕ → ℕ
second op a = 0 + length (name_of op) + 1 + length a + 1 + 1

abbrev pub three_operands : Op → List ℕ → List ℕ → Kind → List ℕ → Kind → List Operand
three_operands op a b j c k =
    operand_at (0 + length (name_of op) + 1) a Name ∷ operand_at (second op a) b j ∷ operand_at (second op a + length b + 1 + 1) c k ∷ []

pub three_read : (op : Op) (a b : List ℕ) (j : Kind) (c : List ℕ) (k : Kind) → IsPlain j → IsPlain k → reading_of (written (three op a b j c k)) (part_tokens 0 (three op a b j c k)) ≡ record { label = None; deed = Work (operation_of (text_of (written (three op a b j c k)) (record { start = 0; end = 0 + length (name_of op); kind = Name }))) (three_operands op a b j c k) }
unfolding reading_of deed_of operands_of groups_of operands_from operand_of
three_read op a b Name c Name p q = refl
three_read op a b Name c (Number y) p q = refl
three_read op a b (Number z) c Name p q = refl
three_read op a b (Number z) c (Number y) p q = refl
three_read op a b Name c Comma p q = absurd q
three_read op a b Name c Colon p q = absurd q
three_read op a b Name c Open p q = absurd q
three_read op a b Name c Close p q = absurd q
three_read op a b (Number z) c Comma p q = absurd q
three_read op a b (Number z) c Colon p q = absurd q
three_read op a b (Number z) c Open p q = absurd q
three_read op a b (Number z) c Close p q = absurd q
three_read op a b Comma c k p q = absurd p
three_read op a b Colon c k p q = absurd p
three_read op a b Open c k p q = absurd p
three_read op a b Close c k p q = absurd p

-- a line that begins with the name of a row
pub row_read : (op : Op) (ps : List Part) (operands : List Operand) → AreParts (Said (name_of op) Name ∷ ps) → reading_of (written (Said (name_of op) Name ∷ ps)) (part_tokens 0 (Said (name_of op) Name ∷ ps)) ≡ record { label = None; deed = Work (operation_of (text_of (written (Said (name_of op) Name ∷ ps)) (record { start = 0; end = 0 + length (name_of op); kind = Name }))) operands } → read_of (written (Said (name_of op) Name ∷ ps)) ≡ record { label = None; deed = Work (Some (Row op)) operands }
unfolding read_of
row_read op ps operands line reads =
    let all = Said (name_of op) Name ∷ ps in
    ap (read_tokens (written all)) (line_tokens 0 all line) ∙ reads
    ∙ ap (λ (o : Option Operation). let r : Reading = record { label = None; deed = Work o operands } in r)
    (ap operation_of ((line_shows all).0) ∙ operation_again (Row op))
