-- The line of an instruction makes its word, form by form.
use Rattle.std.proofs.Common.{◌≡◌, ℕ, zero, suc, ◌+◌, ◌-◌, ◌*◌, ◌%◌, ◌^◌, ◌<◌, ◌≤◌, ◌&&◌, lit<, lit≤, ℤ, pos, neg_ℤ, Bool, true, Option, Some, None, List, [], ◌∷◌, length, take, drop, Ok, Result, refl, ap, ◌∙◌, arith, inl, inr, codes}
use Rattle.std.proofs.lemmas.Bool.{and_from}
use Rattle.std.proofs.lemmas.Bool.Decides.{nat_tests}
use Rattle.hv_isa.specs.declared.Op.{Op}
use Rattle.hv_isa.specs.declared.Op.TheVariants as op
use Rattle.hv_isa.specs.Names.{name_of}
use Rattle.hv_isa.specs.Table.{IsImmediate, row_of, spell}
use Rattle.hv_lex.specs.Tokens.{is_letter, is_digit}
use Rattle.hv_lex.specs.declared.Kind.{Kind}
use Rattle.hv_lex.specs.declared.Kind.TheVariants.{Name, Number, Comma, Colon, Open, Close}
use Rattle.hv_lex.specs.declared.Token.{Token}
use Rattle.hv_lex.proofs.Parts.{Part, Said, Blank, CommaPart, OpenPart, ClosePart, Reads, Apart, AreParts, Shows, name_said, written, part_tokens, line_tokens, line_shows, line_unbroken}
use Rattle.hv_asm.specs.Amounts.{amount_of, within, within_signed, is_even, word_of}
use Rattle.hv_asm.specs.Assembly.{asm_of}
use Rattle.hv_asm.specs.Forms.{form_of, ranged, immediate_of, word_with}
use Rattle.hv_asm.specs.Operands.{Reading, Work, reading_of, deed_of, operands_of, operands_from, groups_of, operand_of, read_of, read_tokens, text_of}
use Rattle.hv_asm.specs.Rows.{register_at, register, number, csr, target, form_word, registers_word, immediate_word, load_word, store_word, branch_word, jump_word, upper_word, csr_register_word, csr_number_word, small, sources_word, source_word, bare_word}
use Rattle.hv_asm.specs.Names.{operation_of, register_of}
use Rattle.hv_asm.specs.declared.AsmKind.{AsmKind}
use Rattle.hv_asm.specs.declared.amounts.Amount.{Amount}
use Rattle.hv_asm.specs.declared.amounts.Amount.TheVariants.{Plus, Minus}
use Rattle.hv_asm.specs.declared.forms.Form.{Form}
use Rattle.hv_asm.specs.declared.forms.Form.TheVariants as form
use Rattle.hv_asm.specs.declared.labels.Place.{Place}
use Rattle.hv_asm.specs.Words.{words_with, value, value_at, value_words, values_of}
use Rattle.hv_asm.specs.declared.names.Operation.{Operation}
use Rattle.hv_asm.specs.declared.names.Operation.TheVariants as does
use Rattle.hv_asm.proofs.Naming.{operation_again}
use Rattle.hv_asm.specs.declared.operands.Operand.{Operand}
use Rattle.hv_asm.specs.declared.operands.Operand.TheVariants as operand
use Rattle.hv_asm.proofs.Named.{op_reads}
use Rattle.hv_asm.proofs.Written.{instr, line_word, row_words, row_read, word_is, operand_at, IsPlain, IsRegister, IsControlAs, IsControl, IsSigned, register_shown, csr_shown, behind_three, three, second, three_operands, three_read}
use Rattle.hv_lex.specs.Refusing.{◌>>=◌}

-- a label's place, by its name
abbrev Find : Type 0
Find = List ℕ → Option Place

-- numbers as operands
minus_amount : (n : ℕ) → 0 < n → amount_of (neg_ℤ (pos n)) ≡ Minus n
minus_amount zero some = absurd (omega arith)
minus_amount (suc n) some = refl

-- the amount is the word v as a signed number, from -bound to below the bound
abbrev IsAmount : Amount → ℕ → (bound : ℕ) → Type 0
IsAmount (Plus n) v bound = (n ≡ v) × (v < bound)
IsAmount (Minus n) v bound = (n + v ≡ 2 ^ 32) × (0 < n) × (n ≤ bound)

amount_is : (z : ℤ) (v bound : ℕ) → IsSigned z v → (v < 2 ^ 31 → v < bound) → (2 ^ 31 ≤ v → v < 2 ^ 32 → 2 ^ 32 ≤ v + bound) → IsAmount (amount_of z) v bound
amount_is z v bound (inl plus) below above = rw plus.0 (refl, below plus.1)
amount_is z v bound (inr minus) below above =
    rw (minus.0, minus_amount (2 ^ 32 - v) (omega (arith, minus.2)))
    (omega (arith, minus.2), omega (arith, minus.2), omega (arith, above minus.1 minus.2))

low12 : (v : ℕ) → IsImmediate 12 v → v < 2 ^ 31 → v < 2048
low12 v fits low = grind (arith, nat_tests)

high12 : (v : ℕ) → IsImmediate 12 v → 2 ^ 31 ≤ v → v < 2 ^ 32 → 2 ^ 32 ≤ v + 2048
high12 v fits high word = grind (arith, nat_tests)

low13 : (v : ℕ) → IsImmediate 13 v → v < 2 ^ 31 → v < 4096
low13 v fits low = grind (arith, nat_tests)

high13 : (v : ℕ) → IsImmediate 13 v → 2 ^ 31 ≤ v → v < 2 ^ 32 → 2 ^ 32 ≤ v + 4096
high13 v fits high word = grind (arith, nat_tests)

low21 : (v : ℕ) → IsImmediate 21 v → v < 2 ^ 31 → v < 1048576
low21 v fits low = grind (arith, nat_tests)

high21 : (v : ℕ) → IsImmediate 21 v → 2 ^ 31 ≤ v → v < 2 ^ 32 → 2 ^ 32 ≤ v + 1048576
high21 v fits high word = grind (arith, nat_tests)

ranged_is : (inside : Bool) (n v : ℕ) → inside ≡ true → n ≡ v → ranged inside n ≡ Ok v
ranged_is inside n v is same =
    ap (λ b. ranged b n) is ∙ ap (λ (n : ℕ). let w : Result ℕ AsmKind = Ok n in w) same

signed_inside : (a : Amount) (v bound : ℕ) → IsAmount a v bound → bound < 2 ^ 31 → (within_signed bound a ≡ true) × (word_of a ≡ v)
signed_inside (Plus n) v bound is low = (grind (arith, nat_tests), omega arith)
signed_inside (Minus n) v bound is low = (grind (arith, nat_tests), omega arith)

amount_even : (a : Amount) (v bound : ℕ) → IsAmount a v bound → v % 2 ≡ 0 → is_even a ≡ true
amount_even (Plus n) v bound is even = grind (arith, nat_tests)
amount_even (Minus n) v bound is even = let e : n % 2 ≡ 0 = omega arith in grind (arith, nat_tests)

ranged_signed : (a : Amount) (v bound : ℕ) → IsAmount a v bound → bound < 2 ^ 31 → ranged (within_signed bound a) (word_of a) ≡ Ok v
ranged_signed a v bound is low = let inside = signed_inside a v bound is low in ranged_is _ _ v inside.0 inside.1

ranged_even : (a : Amount) (v bound : ℕ) → IsAmount a v bound → bound < 2 ^ 31 → v % 2 ≡ 0 → ranged (within_signed bound a && is_even a) (word_of a) ≡ Ok v
ranged_even a v bound is low even =
    let inside = signed_inside a v bound is low in
    ranged_is _ _ v (and_from _ _ inside.0 (amount_even a v bound is even)) inside.1

plus_inside : (n bound : ℕ) → n < bound → bound ≤ 2 ^ 32 → ranged (within bound (Plus n)) (word_of (Plus n)) ≡ Ok n
plus_inside n bound below low = ranged_is _ _ n (grind (arith, nat_tests)) (omega arith)

-- the words of the forms
registers_is : (line : List ℕ) (op : Op) (x y z : Operand) (rd rs1 rs2 w : ℕ) → register line x ≡ Ok rd → register line y ≡ Ok rs1 → register line z ≡ Ok rs2 → word_with op rd rs1 rs2 (Plus 0) ≡ Ok w → registers_word line op (x ∷ y ∷ z ∷ []) ≡ Ok w
unfolding registers_word
registers_is line op x y z rd rs1 rs2 w p q r e = rw (p, q, r) e

immediate_is : (line : List ℕ) (op : Op) (x y z : Operand) (rd rs1 w : ℕ) (a : Amount) → register line x ≡ Ok rd → register line y ≡ Ok rs1 → number z ≡ Ok a → word_with op rd rs1 0 a ≡ Ok w → immediate_word line op (x ∷ y ∷ z ∷ []) ≡ Ok w
unfolding immediate_word
immediate_is line op x y z rd rs1 w a p q r e = rw (p, q, r) e

branch_is : (find : Find) (at : ℕ) (line : List ℕ) (op : Op) (x y z : Operand) (rs1 rs2 w : ℕ) (a : Amount) → register line x ≡ Ok rs1 → register line y ≡ Ok rs2 → target find at line z ≡ Ok a → word_with op 0 rs1 rs2 a ≡ Ok w → branch_word find at line op (x ∷ y ∷ z ∷ []) ≡ Ok w
unfolding branch_word
branch_is find at line op x y z rs1 rs2 w a p q r e = rw (p, q, r) e

csr_register_is : (line : List ℕ) (op : Op) (x y z : Operand) (rd rs1 w : ℕ) (a : Amount) → register line x ≡ Ok rd → csr line y ≡ Ok a → register line z ≡ Ok rs1 → word_with op rd rs1 0 a ≡ Ok w → csr_register_word line op (x ∷ y ∷ z ∷ []) ≡ Ok w
unfolding csr_register_word
csr_register_is line op x y z rd rs1 w a p q r e = rw (p, q, r) e

csr_number_is : (line : List ℕ) (op : Op) (x y z : Operand) (rd rs1 w : ℕ) (a b : Amount) → register line x ≡ Ok rd → csr line y ≡ Ok a → number z ≡ Ok b → small b ≡ Ok rs1 → word_with op rd rs1 0 a ≡ Ok w → csr_number_word line op (x ∷ y ∷ z ∷ []) ≡ Ok w
unfolding csr_number_word
csr_number_is line op x y z rd rs1 w a b p q r s e = rw (p, q, r, s) e

-- the line of a row, from what stands behind its name
row_line : (op : Op) (ps : List Part) (operands : List Operand) (f : Form) (base w : ℕ) → Apart ps → AreParts ps → reading_of (written (Said (name_of op) Name ∷ ps)) (part_tokens 0 (Said (name_of op) Name ∷ ps)) ≡ record { label = None; deed = Work (operation_of (text_of (written (Said (name_of op) Name ∷ ps)) (record { start = 0; end = 0 + length (name_of op); kind = Name }))) operands } → form_of (row_of op) ≡ f → base + 4 ≤ 2 ^ 32 → ((find : Find) → Shows (written (Said (name_of op) Name ∷ ps)) 0 (Said (name_of op) Name ∷ ps) → form_word find base (written (Said (name_of op) Name ∷ ps)) op f operands ≡ Ok w) → asm_of (written (Said (name_of op) Name ∷ ps)) base ≡ Ok (w ∷ [])
row_line op ps operands f base w apart parts reads is room word =
    let all = Said (name_of op) Name ∷ ps in
    let line : AreParts all = (op_reads op, apart, parts) in
    line_word (written all) (does.Row op) operands base w (line_unbroken all line) (row_read op ps operands line reads) refl room
    (λ find. row_words find base (written all) op operands f w is (word find (line_shows all)))

-- three operands
three_line : (op : Op) (a b : List ℕ) (j : Kind) (c : List ℕ) (k : Kind) (f : Form) (base w : ℕ) → IsPlain j → IsPlain k → Reads a Name → Reads b j → Reads c k → form_of (row_of op) ≡ f → base + 4 ≤ 2 ^ 32 → ((find : Find) → Shows (written (three op a b j c k)) 0 (three op a b j c k) → form_word find base (written (three op a b j c k)) op f (three_operands op a b j c k) ≡ Ok w) → asm_of (written (three op a b j c k)) base ≡ Ok (w ∷ [])
three_line op a b j c k f base w p q ra rb rc is room word =
    row_line op (behind_three a b j c k) (three_operands op a b j c k) f base w tt (ra, tt, (rb, tt, (rc, tt, tt))) (three_read op a b j c k p q) is room word

pub registers_line : (op : Op) (a b c : List ℕ) (rd rs1 rs2 base : ℕ) → form_of (row_of op) ≡ form.Registers → IsRegister a rd → IsRegister b rs1 → IsRegister c rs2 → base + 4 ≤ 2 ^ 32 → asm_of (written (three op a b Name c Name)) base ≡ Ok (spell (row_of op) (instr op rd rs1 rs2 0) ∷ [])
unfolding form_word immediate_of
registers_line op a b c rd rs1 rs2 base is ra rb rc room =
    let line = written (three op a b Name c Name) in
    three_line op a b Name c Name form.Registers base _ tt tt ra.reads rb.reads rc.reads is room
    (λ find s. registers_is line op _ _ _ rd rs1 rs2 _
    (register_shown line a _ rd s.1.0 ra.is) (register_shown line b _ rs1 s.1.1.0 rb.is) (register_shown line c _ rs2 s.1.1.1.0 rc.is)
    (word_is op form.Registers rd rs1 rs2 0 (Plus 0) is refl))

number_is : (z : ℤ) → number (operand.Number (amount_of z)) ≡ Ok (amount_of z)
unfolding number
number_is z = refl

pub immediate_line : (op : Op) (a b c : List ℕ) (z : ℤ) (rd rs1 imm base : ℕ) → form_of (row_of op) ≡ form.Immediate → IsRegister a rd → IsRegister b rs1 → Reads c (Number z) → IsSigned z imm → IsImmediate 12 imm → base + 4 ≤ 2 ^ 32 → asm_of (written (three op a b Name c (Number z))) base ≡ Ok (spell (row_of op) (instr op rd rs1 0 imm) ∷ [])
unfolding form_word immediate_of
immediate_line op a b c z rd rs1 imm base is ra rb rc said fits room =
    let line = written (three op a b Name c (Number z)) in
    three_line op a b Name c (Number z) form.Immediate base _ tt tt ra.reads rb.reads rc is room
    (λ find s. immediate_is line op _ _ _ rd rs1 _ (amount_of z)
    (register_shown line a _ rd s.1.0 ra.is) (register_shown line b _ rs1 s.1.1.0 rb.is) (number_is z)
    (word_is op form.Immediate rd rs1 0 imm (amount_of z) is
    (ranged_signed (amount_of z) imm 2048 (amount_is z imm 2048 said (low12 imm fits) (high12 imm fits)) (lit< tt))))

pub shift_line : (op : Op) (a b c : List ℕ) (rd rs1 imm base : ℕ) → form_of (row_of op) ≡ form.ShiftAmount → IsRegister a rd → IsRegister b rs1 → Reads c (Number (pos imm)) → imm < 32 → base + 4 ≤ 2 ^ 32 → asm_of (written (three op a b Name c (Number (pos imm)))) base ≡ Ok (spell (row_of op) (instr op rd rs1 0 imm) ∷ [])
unfolding form_word immediate_of
shift_line op a b c rd rs1 imm base is ra rb rc below room =
    let line = written (three op a b Name c (Number (pos imm))) in
    three_line op a b Name c (Number (pos imm)) form.ShiftAmount base _ tt tt ra.reads rb.reads rc is room
    (λ find s. immediate_is line op _ _ _ rd rs1 _ (Plus imm)
    (register_shown line a _ rd s.1.0 ra.is) (register_shown line b _ rs1 s.1.1.0 rb.is) (number_is (pos imm))
    (word_is op form.ShiftAmount rd rs1 0 imm (Plus imm) is (plus_inside imm 32 below (lit≤ tt))))

target_is : (find : Find) (base : ℕ) (line : List ℕ) (z : ℤ) → target find base line (operand.Number (amount_of z)) ≡ Ok (amount_of z)
unfolding target
target_is find base line z = refl

pub branch_line : (op : Op) (a b c : List ℕ) (z : ℤ) (rs1 rs2 imm base : ℕ) → form_of (row_of op) ≡ form.Branch → IsRegister a rs1 → IsRegister b rs2 → Reads c (Number z) → IsSigned z imm → IsImmediate 13 imm → imm % 2 ≡ 0 → base + 4 ≤ 2 ^ 32 → asm_of (written (three op a b Name c (Number z))) base ≡ Ok (spell (row_of op) (instr op 0 rs1 rs2 imm) ∷ [])
unfolding form_word immediate_of
branch_line op a b c z rs1 rs2 imm base is ra rb rc said fits even room =
    let line = written (three op a b Name c (Number z)) in
    three_line op a b Name c (Number z) form.Branch base _ tt tt ra.reads rb.reads rc is room
    (λ find s. branch_is find base line op _ _ _ rs1 rs2 _ (amount_of z)
    (register_shown line a _ rs1 s.1.0 ra.is) (register_shown line b _ rs2 s.1.1.0 rb.is) (target_is find base line z)
    (word_is op form.Branch 0 rs1 rs2 imm (amount_of z) is
    (ranged_even (amount_of z) imm 4096 (amount_is z imm 4096 said (low13 imm fits) (high13 imm fits)) (lit< tt) even)))

plain_control : (text : List ℕ) (k : Kind) (n : ℕ) → IsControlAs text n k → IsPlain k
plain_control text Name n is = tt
plain_control text (Number z) n is = tt
plain_control text Comma n is = is
plain_control text Colon n is = is
plain_control text Open n is = is
plain_control text Close n is = is

pub csr_register_line : (op : Op) (a b : List ℕ) (k : Kind) (c : List ℕ) (rd imm rs1 base : ℕ) → form_of (row_of op) ≡ form.CsrRegister → IsRegister a rd → IsControl b k imm → IsRegister c rs1 → imm < 4096 → base + 4 ≤ 2 ^ 32 → asm_of (written (three op a b k c Name)) base ≡ Ok (spell (row_of op) (instr op rd rs1 0 imm) ∷ [])
unfolding form_word immediate_of
csr_register_line op a b k c rd imm rs1 base is ra rb rc below room =
    let line = written (three op a b k c Name) in
    three_line op a b k c Name form.CsrRegister base _ (plain_control b k imm rb.is) tt ra.reads rb.reads rc.reads is room
    (λ find s. csr_register_is line op _ _ _ rd rs1 _ (Plus imm)
    (register_shown line a _ rd s.1.0 ra.is) (csr_shown line b k _ imm s.1.1.0 rb.is) (register_shown line c _ rs1 s.1.1.1.0 rc.is)
    (word_is op form.CsrRegister rd rs1 0 imm (Plus imm) is (plus_inside imm 4096 below (lit≤ tt))))

small_is : (n : ℕ) → n < 32 → small (Plus n) ≡ Ok n
unfolding small
small_is n below = plus_inside n 32 below (lit≤ tt)

pub csr_number_line : (op : Op) (a b : List ℕ) (k : Kind) (c : List ℕ) (rd imm rs1 base : ℕ) → form_of (row_of op) ≡ form.CsrNumber → IsRegister a rd → IsControl b k imm → Reads c (Number (pos rs1)) → rs1 < 32 → imm < 4096 → base + 4 ≤ 2 ^ 32 → asm_of (written (three op a b k c (Number (pos rs1)))) base ≡ Ok (spell (row_of op) (instr op rd rs1 0 imm) ∷ [])
unfolding form_word immediate_of
csr_number_line op a b k c rd imm rs1 base is ra rb rc few below room =
    let line = written (three op a b k c (Number (pos rs1))) in
    three_line op a b k c (Number (pos rs1)) form.CsrNumber base _ (plain_control b k imm rb.is) tt ra.reads rb.reads rc is room
    (λ find s. csr_number_is line op _ _ _ rd rs1 _ (Plus imm) (Plus rs1)
    (register_shown line a _ rd s.1.0 ra.is) (csr_shown line b k _ imm s.1.1.0 rb.is) (number_is (pos rs1)) (small_is rs1 few)
    (word_is op form.CsrNumber rd rs1 0 imm (Plus imm) is (plus_inside imm 4096 below (lit≤ tt))))

-- two operands
abbrev pub behind_two : List ℕ → List ℕ → Kind → List Part
behind_two a b k = Blank ∷ Said a Name ∷ CommaPart ∷ Blank ∷ Said b k ∷ []

abbrev pub two : Op → List ℕ → List ℕ → Kind → List Part
two op a b k = Said (name_of op) Name ∷ behind_two a b k

abbrev two_operands : Op → List ℕ → List ℕ → Kind → List Operand
two_operands op a b k = operand_at (0 + length (name_of op) + 1) a Name ∷ operand_at (second op a) b k ∷ []

two_read : (op : Op) (a b : List ℕ) (k : Kind) → IsPlain k → reading_of (written (two op a b k)) (part_tokens 0 (two op a b k)) ≡ record { label = None; deed = Work (operation_of (text_of (written (two op a b k)) (record { start = 0; end = 0 + length (name_of op); kind = Name }))) (two_operands op a b k) }
unfolding reading_of deed_of operands_of groups_of operands_from operand_of
two_read op a b Name p = refl
two_read op a b (Number z) p = refl
two_read op a b Comma p = absurd p
two_read op a b Colon p = absurd p
two_read op a b Open p = absurd p
two_read op a b Close p = absurd p

two_line : (op : Op) (a b : List ℕ) (k : Kind) (f : Form) (base w : ℕ) → IsPlain k → Reads a Name → Reads b k → form_of (row_of op) ≡ f → base + 4 ≤ 2 ^ 32 → ((find : Find) → Shows (written (two op a b k)) 0 (two op a b k) → form_word find base (written (two op a b k)) op f (two_operands op a b k) ≡ Ok w) → asm_of (written (two op a b k)) base ≡ Ok (w ∷ [])
two_line op a b k f base w p ra rb is room word =
    row_line op (behind_two a b k) (two_operands op a b k) f base w tt (ra, tt, (rb, tt, tt)) (two_read op a b k p) is room word

sources_is : (line : List ℕ) (op : Op) (x y : Operand) (rs1 rs2 w : ℕ) → register line x ≡ Ok rs1 → register line y ≡ Ok rs2 → word_with op 0 rs1 rs2 (Plus 0) ≡ Ok w → sources_word line op (x ∷ y ∷ []) ≡ Ok w
unfolding sources_word
sources_is line op x y rs1 rs2 w p q e = rw (p, q) e

jump_is : (find : Find) (at : ℕ) (line : List ℕ) (x y : Operand) (rd w : ℕ) (a : Amount) → register line x ≡ Ok rd → target find at line y ≡ Ok a → word_with op.Jal rd 0 0 a ≡ Ok w → jump_word find at line (x ∷ y ∷ []) ≡ Ok w
unfolding jump_word
jump_is find at line x y rd w a p q e = rw (p, q) e

upper_is : (line : List ℕ) (op : Op) (x y : Operand) (rd w : ℕ) (a : Amount) → register line x ≡ Ok rd → number y ≡ Ok a → word_with op rd 0 0 a ≡ Ok w → upper_word line op (x ∷ y ∷ []) ≡ Ok w
unfolding upper_word
upper_is line op x y rd w a p q e = rw (p, q) e

pub sources_line : (op : Op) (a b : List ℕ) (rs1 rs2 base : ℕ) → form_of (row_of op) ≡ form.Sources → IsRegister a rs1 → IsRegister b rs2 → base + 4 ≤ 2 ^ 32 → asm_of (written (two op a b Name)) base ≡ Ok (spell (row_of op) (instr op 0 rs1 rs2 0) ∷ [])
unfolding form_word immediate_of
sources_line op a b rs1 rs2 base is ra rb room =
    let line = written (two op a b Name) in
    two_line op a b Name form.Sources base _ tt ra.reads rb.reads is room
    (λ find s. sources_is line op _ _ rs1 rs2 _ (register_shown line a _ rs1 s.1.0 ra.is) (register_shown line b _ rs2 s.1.1.0 rb.is)
    (word_is op form.Sources 0 rs1 rs2 0 (Plus 0) is refl))

pub jump_line : (a b : List ℕ) (z : ℤ) (rd imm base : ℕ) → IsRegister a rd → Reads b (Number z) → IsSigned z imm → IsImmediate 21 imm → imm % 2 ≡ 0 → base + 4 ≤ 2 ^ 32 → asm_of (written (two op.Jal a b (Number z))) base ≡ Ok (spell (row_of op.Jal) (instr op.Jal rd 0 0 imm) ∷ [])
unfolding form_word immediate_of
jump_line a b z rd imm base ra rb said fits even room =
    let line = written (two op.Jal a b (Number z)) in
    two_line op.Jal a b (Number z) form.Jump base _ tt ra.reads rb refl room
    (λ find s. jump_is find base line _ _ rd _ (amount_of z) (register_shown line a _ rd s.1.0 ra.is) (target_is find base line z)
    (word_is op.Jal form.Jump rd 0 0 imm (amount_of z) refl
    (ranged_even (amount_of z) imm 1048576 (amount_is z imm 1048576 said (low21 imm fits) (high21 imm fits)) (lit< tt) even)))

high_inside : (n imm : ℕ) → n * 4096 ≡ imm → imm < 2 ^ 32 → ranged (within 1048576 (Plus n)) (word_of (Plus n) * 4096) ≡ Ok imm
high_inside n imm is below = ranged_is _ _ imm (grind (arith, nat_tests)) (omega arith)

pub upper_line : (op : Op) (a b : List ℕ) (n rd imm base : ℕ) → form_of (row_of op) ≡ form.Upper → IsRegister a rd → Reads b (Number (pos n)) → n * 4096 ≡ imm → imm < 2 ^ 32 → base + 4 ≤ 2 ^ 32 → asm_of (written (two op a b (Number (pos n)))) base ≡ Ok (spell (row_of op) (instr op rd 0 0 imm) ∷ [])
unfolding form_word immediate_of
upper_line op a b n rd imm base is ra rb high below room =
    let line = written (two op a b (Number (pos n))) in
    two_line op a b (Number (pos n)) form.Upper base _ tt ra.reads rb is room
    (λ find s. upper_is line op _ _ rd _ (Plus n) (register_shown line a _ rd s.1.0 ra.is) (number_is (pos n))
    (word_is op form.Upper rd 0 0 imm (Plus n) is (high_inside n imm high below)))

-- a register, and a number with a register in parentheses
abbrev pub behind_based : List ℕ → List ℕ → ℤ → List ℕ → List Part
behind_based a n z b = Blank ∷ Said a Name ∷ CommaPart ∷ Blank ∷ Said n (Number z) ∷ OpenPart ∷ Said b Name ∷ ClosePart ∷ []

abbrev pub offset : Op → List ℕ → List ℕ → ℤ → List ℕ → List Part
offset op a n z b = Said (name_of op) Name ∷ behind_based a n z b

abbrev based_operands : Op → List ℕ → List ℕ → ℤ → List ℕ → List Operand
based_operands op a n z b =
    operand_at (0 + length (name_of op) + 1) a Name
    ∷ operand.Based (amount_of z) (record { start = second op a + length n + 1; end = second op a + length n + 1 + length b; kind = Name }) ∷ []

based_read : (op : Op) (a n : List ℕ) (z : ℤ) (b : List ℕ) → reading_of (written (offset op a n z b)) (part_tokens 0 (offset op a n z b)) ≡ record { label = None; deed = Work (operation_of (text_of (written (offset op a n z b)) (record { start = 0; end = 0 + length (name_of op); kind = Name }))) (based_operands op a n z b) }
unfolding reading_of deed_of operands_of groups_of operands_from operand_of
based_read op a n z b = refl

based_line : (op : Op) (a n : List ℕ) (z : ℤ) (b : List ℕ) (f : Form) (base w : ℕ) → Reads a Name → Reads n (Number z) → Reads b Name → form_of (row_of op) ≡ f → base + 4 ≤ 2 ^ 32 → ((find : Find) → Shows (written (offset op a n z b)) 0 (offset op a n z b) → form_word find base (written (offset op a n z b)) op f (based_operands op a n z b) ≡ Ok w) → asm_of (written (offset op a n z b)) base ≡ Ok (w ∷ [])
based_line op a n z b f base w ra rn rb is room word =
    row_line op (behind_based a n z b) (based_operands op a n z b) f base w tt (ra, tt, (rn, tt, (rb, tt, tt))) (based_read op a n z b) is room word

load_is : (line : List ℕ) (op : Op) (x : Operand) (a : Amount) (t : Token) (rd rs1 w : ℕ) → register line x ≡ Ok rd → register_at line t ≡ Ok rs1 → word_with op rd rs1 0 a ≡ Ok w → load_word line op (x ∷ operand.Based a t ∷ []) ≡ Ok w
unfolding load_word
load_is line op x a t rd rs1 w p q e = rw (p, q) e

store_is : (line : List ℕ) (op : Op) (x : Operand) (a : Amount) (t : Token) (rs2 rs1 w : ℕ) → register line x ≡ Ok rs2 → register_at line t ≡ Ok rs1 → word_with op 0 rs1 rs2 a ≡ Ok w → store_word line op (x ∷ operand.Based a t ∷ []) ≡ Ok w
unfolding store_word
store_is line op x a t rs2 rs1 w p q e = rw (p, q) e

base_shown : (line text : List ℕ) (at n : ℕ) → drop at (take (at + length text) line) ≡ text → register_of text ≡ Some n → register_at line (record { start = at; end = at + length text; kind = Name }) ≡ Ok n
unfolding register
base_shown line text at n shown is = register_shown line text at n shown is

pub load_line : (op : Op) (a n : List ℕ) (z : ℤ) (b : List ℕ) (rd imm rs1 base : ℕ) → form_of (row_of op) ≡ form.Load → IsRegister a rd → Reads n (Number z) → IsSigned z imm → IsImmediate 12 imm → IsRegister b rs1 → base + 4 ≤ 2 ^ 32 → asm_of (written (offset op a n z b)) base ≡ Ok (spell (row_of op) (instr op rd rs1 0 imm) ∷ [])
unfolding form_word immediate_of
load_line op a n z b rd imm rs1 base is ra rn said fits rb room =
    let line = written (offset op a n z b) in
    based_line op a n z b form.Load base _ ra.reads rn rb.reads is room
    (λ find s. load_is line op _ (amount_of z) _ rd rs1 _ (register_shown line a _ rd s.1.0 ra.is) (base_shown line b _ rs1 s.1.1.1.0 rb.is)
    (word_is op form.Load rd rs1 0 imm (amount_of z) is
    (ranged_signed (amount_of z) imm 2048 (amount_is z imm 2048 said (low12 imm fits) (high12 imm fits)) (lit< tt))))

pub store_line : (op : Op) (a n : List ℕ) (z : ℤ) (b : List ℕ) (rs2 imm rs1 base : ℕ) → form_of (row_of op) ≡ form.Store → IsRegister a rs2 → Reads n (Number z) → IsSigned z imm → IsImmediate 12 imm → IsRegister b rs1 → base + 4 ≤ 2 ^ 32 → asm_of (written (offset op a n z b)) base ≡ Ok (spell (row_of op) (instr op 0 rs1 rs2 imm) ∷ [])
unfolding form_word immediate_of
store_line op a n z b rs2 imm rs1 base is ra rn said fits rb room =
    let line = written (offset op a n z b) in
    based_line op a n z b form.Store base _ ra.reads rn rb.reads is room
    (λ find s. store_is line op _ (amount_of z) _ rs2 rs1 _ (register_shown line a _ rs2 s.1.0 ra.is) (base_shown line b _ rs1 s.1.1.1.0 rb.is)
    (word_is op form.Store 0 rs1 rs2 imm (amount_of z) is
    (ranged_signed (amount_of z) imm 2048 (amount_is z imm 2048 said (low12 imm fits) (high12 imm fits)) (lit< tt))))

-- one operand
abbrev pub behind_one : List ℕ → List Part
behind_one a = Blank ∷ Said a Name ∷ []

one_read : (op : Op) (a : List ℕ) → reading_of (written (Said (name_of op) Name ∷ behind_one a)) (part_tokens 0 (Said (name_of op) Name ∷ behind_one a)) ≡ record { label = None; deed = Work (operation_of (text_of (written (Said (name_of op) Name ∷ behind_one a)) (record { start = 0; end = 0 + length (name_of op); kind = Name }))) (operand_at (0 + length (name_of op) + 1) a Name ∷ []) }
unfolding reading_of deed_of operands_of groups_of operands_from operand_of
one_read op a = refl

source_is : (line : List ℕ) (op : Op) (x : Operand) (rs1 w : ℕ) → register line x ≡ Ok rs1 → word_with op 0 rs1 0 (Plus 0) ≡ Ok w → source_word line op (x ∷ []) ≡ Ok w
unfolding source_word
source_is line op x rs1 w p e = rw p e

pub source_line : (op : Op) (a : List ℕ) (rs1 base : ℕ) → form_of (row_of op) ≡ form.Source → IsRegister a rs1 → base + 4 ≤ 2 ^ 32 → asm_of (written (Said (name_of op) Name ∷ behind_one a)) base ≡ Ok (spell (row_of op) (instr op 0 rs1 0 0) ∷ [])
unfolding form_word immediate_of
source_line op a rs1 base is ra room =
    let line = written (Said (name_of op) Name ∷ behind_one a) in
    row_line op (behind_one a) (operand_at (0 + length (name_of op) + 1) a Name ∷ []) form.Source base _ tt (ra.reads, tt, tt) (one_read op a) is room
    (λ find s. source_is line op _ rs1 _ (register_shown line a _ rs1 s.1.0 ra.is) (word_is op form.Source 0 rs1 0 0 (Plus 0) is refl))

-- a name alone
bare_read : (op : Op) → reading_of (written (Said (name_of op) Name ∷ [])) (part_tokens 0 (Said (name_of op) Name ∷ [])) ≡ record { label = None; deed = Work (operation_of (text_of (written (Said (name_of op) Name ∷ [])) (record { start = 0; end = 0 + length (name_of op); kind = Name }))) [] }
unfolding reading_of deed_of operands_of
bare_read op = refl

pub bare_line : (op : Op) (w base : ℕ) → form_of (row_of op) ≡ form.Bare → bare_word op [] ≡ Ok w → base + 4 ≤ 2 ^ 32 → asm_of (name_of op) base ≡ Ok (w ∷ [])
unfolding form_word
bare_line op w base is word room =
    row_line op [] [] form.Bare base w tt tt (bare_read op) is room (λ find s. word)

-- a word as a number
value_is : (w : ℕ) → w < 2 ^ 32 → value (Plus w) ≡ Ok w
unfolding value
value_is w small = ranged_is _ w w (grind (arith, nat_tests)) refl

value_words_is : (find : Find) (line : List ℕ) (w : ℕ) → w < 2 ^ 32 → value_words find line (operand.Number (Plus w) ∷ []) ≡ Ok (w ∷ [])
unfolding value_words values_of value_at
value_words_is find line w small = ap (λ (r : Result ℕ AsmKind). r >>= λ w. Ok (w ∷ [])) (value_is w small)

words_is : (find : Find) (at : ℕ) (line : List ℕ) (operands : List Operand) → words_with find at line does.Words operands ≡ value_words find line operands
unfolding words_with
words_is find at line operands = refl

abbrev pub word_parts : List ℕ → ℕ → List Part
word_parts text w = Said (codes ".word") Name ∷ Blank ∷ Said text (Number (pos w)) ∷ []

word_named : Reads (codes ".word") Name
unfolding is_letter is_digit
word_named = name_said (codes ".word") refl

word_read : (text : List ℕ) (w : ℕ) → reading_of (written (word_parts text w)) (part_tokens 0 (word_parts text w)) ≡ record { label = None; deed = Work (operation_of (text_of (written (word_parts text w)) (record { start = 0; end = 0 + length (codes ".word"); kind = Name }))) (operand.Number (Plus w) ∷ []) }
unfolding reading_of deed_of operands_of groups_of operands_from operand_of
word_read text w = refl

word_line_read : (text : List ℕ) (w : ℕ) → AreParts (word_parts text w) → read_of (written (word_parts text w)) ≡ record { label = None; deed = Work (Some does.Words) (operand.Number (Plus w) ∷ []) }
unfolding read_of
word_line_read text w line =
    let all = word_parts text w in
    ap (read_tokens (written all)) (line_tokens 0 all line) ∙ word_read text w
    ∙ ap (λ (o : Option Operation). let r : Reading = record { label = None; deed = Work o (operand.Number (Plus w) ∷ []) } in r)
    (ap operation_of ((line_shows all).0) ∙ operation_again does.Words)

pub word_line : (text : List ℕ) (w base : ℕ) → Reads text (Number (pos w)) → w < 2 ^ 32 → base + 4 ≤ 2 ^ 32 → asm_of (written (word_parts text w)) base ≡ Ok (w ∷ [])
word_line text w base reads small room =
    let all = word_parts text w in
    let line : AreParts all = (word_named, tt, (reads, tt, tt)) in
    line_word (written all) does.Words (operand.Number (Plus w) ∷ []) base w (line_unbroken all line) (word_line_read text w line) refl room
    (λ find. words_is find base (written all) _ ∙ value_words_is find (written all) w small)
