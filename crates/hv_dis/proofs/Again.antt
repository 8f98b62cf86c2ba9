-- Assembling the line of a word gives the word.
use Rattle.std.proofs.Common.{subst, option_map, ◌≡◌, ℕ, ◌+◌, ◌-◌, ◌/◌, ◌^◌, ◌<◌, ◌≤◌, nat_eq, nat_lt, ℤ, pos, neg_ℤ, Bool, true, false, cond, find, Option, Some, None, IfSome, List, [], ◌∷◌, ◌++◌, Ok, Result, refl, sym, ap, ◌∙◌, arith, append_assoc, inl, inr, codes, decimal}
use Rattle.std.specs.List.{AllByRecursion}
use Rattle.std.proofs.lemmas.Bool.{eqb-true, ltb-true, ltb-false}
use Rattle.std.proofs.lemmas.Bool.Decides.{nat_tests}
use Rattle.hv_word.specs.Words.{field_of}
use Rattle.hv_isa.specs.declared.Instr.{Instr}
use Rattle.hv_isa.specs.declared.Op.{Op}
use Rattle.hv_isa.specs.declared.Op.TheVariants.{Lui, Auipc, Jal, Jalr, Beq, Bne, Blt, Bge, Bltu, Bgeu, Lb, Lh, Lw, Lbu, Lhu, Sb, Sh, Sw, Addi, Slti, Sltiu, Xori, Ori, Andi, Slli, Srli, Srai, Add, Sub, Sll, Slt, Sltu, Xor, Srl, Sra, Or, And, Fence, FenceI, Ecall, Ebreak, Csrrw, Csrrs, Csrrc, Csrrwi, Csrrsi, Csrrci, Sret, Mret, Wfi, SfenceVma, Vmenter}
use Rattle.hv_isa.specs.Csrs.{csrs, csr_name_of}
use Rattle.hv_isa.specs.Names.{name_of}
use Rattle.hv_isa.specs.Table.{U, J, B, I, S, R, Shift, Csr, Pair, One, Whole, Fits, IsImmediate, Row, row_of, spell, decode_of}
use Rattle.hv_isa.proofs.Decoding.{Row-decoded}
use Rattle.hv_isa.proofs.Registers.{number_again}
use Rattle.hv_lex.specs.declared.Kind.{Kind}
use Rattle.hv_lex.specs.declared.Kind.TheVariants.{Name, Number}
use Rattle.hv_lex.specs.Tokens.{is_letter, is_digit}
use Rattle.hv_lex.proofs.Parts.{Reads, is_name, name_said}
use Rattle.hv_lex.proofs.Spelled.{decimal_reads, minus_reads, hex_reads, eight_read}
use Rattle.hv_asm.specs.Assembly.{asm_of}
use Rattle.hv_asm.specs.Forms.{form_of, word_with, immediate_of}
use Rattle.hv_asm.specs.Rows.{bare_word}
use Rattle.hv_asm.specs.declared.AsmKind.{AsmKind}
use Rattle.hv_asm.proofs.Named.{register_written}
use Rattle.hv_asm.proofs.Written.{instr, IsControl, IsSigned}
use Rattle.hv_asm.proofs.FormLines as asm
use Rattle.hv_dis.proofs.Eights.{eight}
use Rattle.hv_dis.specs.Dis.{access, based, branch, control, dis_of, hex, immediate, instr_line, jump, line_of, lower_digits, named, operands, pair, register, says_all, shift, signed, source, three, upper, upper_digits, word_line}

-- what is found is in the list
found_has : {X : Type 0} (P : X → Type 0) (p : X → Bool) (xs : List X) (x : X) → AllByRecursion P xs → find p xs ≡ Some x → P x
found_has P p [] x all is = cc
found_has {X} P p (y ∷ ys) x all is =
    let again : (b : Bool) → p y ≡ b → cond b (Some y) (find p ys) ≡ Some x → P x =
    λ b e is. elim b as (λ b. cond b (Some y) (find p ys) ≡ Some x → P x)
    [ true ↦ λ is. let same : y ≡ x = cc in subst P same all.0 | false ↦ λ is. found_has P p ys x all.1 is ] is
    in again (p y) refl is

mapped : {X Y : Type 0} (f : X → Y) (o : Option X) (y : Y) → option_map f o ≡ Some y → (x : X) × (o ≡ Some x) × (f x ≡ y)
mapped f (Some x) y is = let e : f x ≡ y = cc in (x, refl, e)
mapped f None y is = cc

-- a text's only word
abbrev Answer : Type 0
Answer = Result (List ℕ) (ℕ × AsmKind)

abbrev only : ℕ → Answer
only w = Ok (w ∷ [])

-- a word as a signed number
signed_reads : (v : ℕ) → v < 2 ^ 32 → (z : ℤ) × Reads (signed v) (Number z) × IsSigned z v
unfolding signed
signed_reads v small =
    let go : (b : Bool) → nat_lt v (2 ^ 31) ≡ b → (z : ℤ) × Reads (cond b (decimal v) (codes "-" ++ decimal (2 ^ 32 - v))) (Number z) × IsSigned z v =
    λ b is. elim b as (λ b. nat_lt v (2 ^ 31) ≡ b → (z : ℤ) × Reads (cond b (decimal v) (codes "-" ++ decimal (2 ^ 32 - v))) (Number z) × IsSigned z v) [
      | true ↦ λ is. (pos v, decimal_reads v small, inl (refl, ltb-true v (2 ^ 31) is))
      | false ↦ λ is.
          let high : 2 ^ 31 ≤ v = ltb-false v (2 ^ 31) is in
          (neg_ℤ (pos (2 ^ 32 - v)), minus_reads (2 ^ 32 - v) (omega arith), inr (refl, high, small))
    ] is in
    go (nat_lt v (2 ^ 31)) refl

-- a control and status register, by name or by number
each_named : AllByRecursion (λ row. is_name row.1 ≡ true) csrs
unfolding is_letter is_digit
each_named = ((refl, (refl, (refl, (refl, (refl, (refl, (refl, (refl, (refl, (refl, (refl, (refl, (refl, (refl, (refl, (refl, (refl, (refl, (refl, (refl, (refl, (refl, (refl, (refl, (refl, (refl, (refl, tt))))))))))))))))))))))))))))

csr_named : (n : ℕ) (text : List ℕ) → csr_name_of n ≡ Some text → is_name text ≡ true
unfolding csr_name_of
csr_named n text is =
    let row = mapped (λ (row : ℕ × List ℕ). row.1) (find (λ row. nat_eq row.0 n) csrs) text is in
    ap is_name (sym row.2) ∙ found_has (λ (row : ℕ × List ℕ). is_name row.1 ≡ true) (λ (row : ℕ × List ℕ). nat_eq row.0 n) csrs row.0 each_named row.1

control_from : (n : ℕ) (o : Option (List ℕ)) → csr_name_of n ≡ o → n < 4096 → (k : Kind) × IsControl (named n o) k n
control_from n (Some text) is below = (Name, record { reads = name_said text (csr_named n text is); is = number_again n text is })
control_from n None is below = (Number (pos n), record { reads = hex_reads n (omega arith); is = refl })

control_reads : (n : ℕ) → n < 4096 → (k : Kind) × IsControl (control n) k n
unfolding control
control_reads n below = control_from n (csr_name_of n) refl below

-- the lines from left to right
three_text : (n a b c : List ℕ) → n ++ (codes " " ++ a ++ codes ", " ++ b ++ codes ", " ++ c) ≡ n ++ 32 ∷ (a ++ 44 ∷ 32 ∷ (b ++ 44 ∷ 32 ∷ c))
three_text n a b c = simp append_assoc

two_text : (n a b : List ℕ) → n ++ (codes " " ++ a ++ codes ", " ++ b) ≡ n ++ 32 ∷ (a ++ 44 ∷ 32 ∷ b)
two_text n a b = simp append_assoc

based_text : (n a b c : List ℕ) → n ++ (codes " " ++ a ++ codes ", " ++ b ++ codes "(" ++ c ++ codes ")") ≡ n ++ 32 ∷ (a ++ 44 ∷ 32 ∷ (b ++ 40 ∷ (c ++ 41 ∷ [])))
based_text n a b c = simp append_assoc

-- the line of an instruction of each form
module _ (op : Op) (rd rs1 rs2 imm base : ℕ) where
  three_again : form_of (row_of op) ≡ form_of (R 0 0 0) → Fits (R 0 0 0) (instr op rd rs1 rs2 imm) → base + 4 ≤ 2 ^ 32 → asm_of (name_of op ++ three (instr op rd rs1 rs2 imm)) base ≡ only (spell (row_of op) (instr op rd rs1 rs2 imm))
  three_again is fits room =
      ap (λ text. asm_of text base) (three_text (name_of op) (register rd) (register rs1) (register rs2))
      ∙ asm.registers_line op _ _ _ rd rs1 rs2 base is (register_written rd fits.0) (register_written rs1 fits.1) (register_written rs2 fits.2) room
      ∙ ap (λ imm. only (spell (row_of op) (instr op rd rs1 rs2 imm))) (sym fits.3)

  immediate_again : form_of (row_of op) ≡ form_of (I 0x13 0) → Fits (I 0x13 0) (instr op rd rs1 rs2 imm) → imm < 2 ^ 32 → base + 4 ≤ 2 ^ 32 → asm_of (name_of op ++ immediate (instr op rd rs1 rs2 imm)) base ≡ only (spell (row_of op) (instr op rd rs1 rs2 imm))
  immediate_again is fits small room =
      let number = signed_reads imm small in
      ap (λ text. asm_of text base) (three_text (name_of op) (register rd) (register rs1) (signed imm))
      ∙ asm.immediate_line op _ _ _ number.0 rd rs1 imm base is (register_written rd fits.0) (register_written rs1 fits.1) number.1 number.2 fits.3 room
      ∙ ap (λ rs2. only (spell (row_of op) (instr op rd rs1 rs2 imm))) (sym fits.2)

  shift_again : form_of (row_of op) ≡ form_of (Shift 0 0 0) → Fits (Shift 0 0 0) (instr op rd rs1 rs2 imm) → base + 4 ≤ 2 ^ 32 → asm_of (name_of op ++ shift (instr op rd rs1 rs2 imm)) base ≡ only (spell (row_of op) (instr op rd rs1 rs2 imm))
  shift_again is fits room =
      ap (λ text. asm_of text base) (three_text (name_of op) (register rd) (register rs1) (decimal imm))
      ∙ asm.shift_line op _ _ _ rd rs1 imm base is (register_written rd fits.0) (register_written rs1 fits.1) (decimal_reads imm (omega (arith, fits.3))) fits.3 room
      ∙ ap (λ rs2. only (spell (row_of op) (instr op rd rs1 rs2 imm))) (sym fits.2)

  load_again : form_of (row_of op) ≡ form_of (I 0x03 0) → Fits (I 0x03 0) (instr op rd rs1 rs2 imm) → imm < 2 ^ 32 → base + 4 ≤ 2 ^ 32 → asm_of (name_of op ++ based rd (instr op rd rs1 rs2 imm)) base ≡ only (spell (row_of op) (instr op rd rs1 rs2 imm))
  load_again is fits small room =
      let number = signed_reads imm small in
      ap (λ text. asm_of text base) (based_text (name_of op) (register rd) (signed imm) (register rs1))
      ∙ asm.load_line op _ _ number.0 _ rd imm rs1 base is (register_written rd fits.0) number.1 number.2 fits.3 (register_written rs1 fits.1) room
      ∙ ap (λ rs2. only (spell (row_of op) (instr op rd rs1 rs2 imm))) (sym fits.2)

  store_again : form_of (row_of op) ≡ form_of (S 0 0) → Fits (S 0 0) (instr op rd rs1 rs2 imm) → imm < 2 ^ 32 → base + 4 ≤ 2 ^ 32 → asm_of (name_of op ++ based rs2 (instr op rd rs1 rs2 imm)) base ≡ only (spell (row_of op) (instr op rd rs1 rs2 imm))
  store_again is fits small room =
      let number = signed_reads imm small in
      ap (λ text. asm_of text base) (based_text (name_of op) (register rs2) (signed imm) (register rs1))
      ∙ asm.store_line op _ _ number.0 _ rs2 imm rs1 base is (register_written rs2 fits.2) number.1 number.2 fits.3 (register_written rs1 fits.1) room
      ∙ ap (λ rd. only (spell (row_of op) (instr op rd rs1 rs2 imm))) (sym fits.0)

  branch_again : form_of (row_of op) ≡ form_of (B 0 0) → Fits (B 0 0) (instr op rd rs1 rs2 imm) → imm < 2 ^ 32 → base + 4 ≤ 2 ^ 32 → asm_of (name_of op ++ branch (instr op rd rs1 rs2 imm)) base ≡ only (spell (row_of op) (instr op rd rs1 rs2 imm))
  branch_again is fits small room =
      let number = signed_reads imm small in
      ap (λ text. asm_of text base) (three_text (name_of op) (register rs1) (register rs2) (signed imm))
      ∙ asm.branch_line op _ _ _ number.0 rs1 rs2 imm base is (register_written rs1 fits.1) (register_written rs2 fits.2) number.1 number.2 fits.3 fits.4 room
      ∙ ap (λ rd. only (spell (row_of op) (instr op rd rs1 rs2 imm))) (sym fits.0)

  upper_again : form_of (row_of op) ≡ form_of (U 0) → Fits (U 0) (instr op rd rs1 rs2 imm) → base + 4 ≤ 2 ^ 32 → asm_of (name_of op ++ upper (instr op rd rs1 rs2 imm)) base ≡ only (spell (row_of op) (instr op rd rs1 rs2 imm))
  upper_again is fits room =
      ap (λ text. asm_of text base) (two_text (name_of op) (register rd) (hex (imm / 2 ^ 12)))
      ∙ asm.upper_line op _ _ (imm / 2 ^ 12) rd imm base is (register_written rd fits.0) (hex_reads (imm / 2 ^ 12) (omega (arith, fits.3))) (omega (arith, fits.4)) fits.3 room
      ∙ ap (λ rs1. only (spell (row_of op) (instr op rd rs1 0 imm))) (sym fits.1)
      ∙ ap (λ rs2. only (spell (row_of op) (instr op rd rs1 rs2 imm))) (sym fits.2)

  access_again : form_of (row_of op) ≡ form_of (Csr 0 1) → Fits (Csr 0 1) (instr op rd rs1 rs2 imm) → base + 4 ≤ 2 ^ 32 → asm_of (name_of op ++ access true (instr op rd rs1 rs2 imm)) base ≡ only (spell (row_of op) (instr op rd rs1 rs2 imm))
  access_again is fits room =
      let csr = control_reads imm fits.3 in
      ap (λ text. asm_of text base) (three_text (name_of op) (register rd) (control imm) (register rs1))
      ∙ asm.csr_register_line op _ _ csr.0 _ rd imm rs1 base is (register_written rd fits.0) csr.1 (register_written rs1 fits.1) fits.3 room
      ∙ ap (λ rs2. only (spell (row_of op) (instr op rd rs1 rs2 imm))) (sym fits.2)

  access_number_again : form_of (row_of op) ≡ form_of (Csr 0 5) → Fits (Csr 0 5) (instr op rd rs1 rs2 imm) → base + 4 ≤ 2 ^ 32 → asm_of (name_of op ++ access false (instr op rd rs1 rs2 imm)) base ≡ only (spell (row_of op) (instr op rd rs1 rs2 imm))
  access_number_again is fits room =
      let csr = control_reads imm fits.3 in
      ap (λ text. asm_of text base) (three_text (name_of op) (register rd) (control imm) (decimal rs1))
      ∙ asm.csr_number_line op _ _ csr.0 _ rd imm rs1 base is (register_written rd fits.0) csr.1 (decimal_reads rs1 (omega (arith, fits.1))) fits.1 fits.3 room
      ∙ ap (λ rs2. only (spell (row_of op) (instr op rd rs1 rs2 imm))) (sym fits.2)

  pair_again : form_of (row_of op) ≡ form_of (Pair 0 0 0) → Fits (Pair 0 0 0) (instr op rd rs1 rs2 imm) → base + 4 ≤ 2 ^ 32 → asm_of (name_of op ++ pair (instr op rd rs1 rs2 imm)) base ≡ only (spell (row_of op) (instr op rd rs1 rs2 imm))
  pair_again is fits room =
      ap (λ text. asm_of text base) (two_text (name_of op) (register rs1) (register rs2))
      ∙ asm.sources_line op _ _ rs1 rs2 base is (register_written rs1 fits.1) (register_written rs2 fits.2) room
      ∙ ap (λ rd. only (spell (row_of op) (instr op rd rs1 rs2 0))) (sym fits.0)
      ∙ ap (λ imm. only (spell (row_of op) (instr op rd rs1 rs2 imm))) (sym fits.3)

  source_again : form_of (row_of op) ≡ form_of (One 0 0) → Fits (One 0 0) (instr op rd rs1 rs2 imm) → base + 4 ≤ 2 ^ 32 → asm_of (name_of op ++ source (instr op rd rs1 rs2 imm)) base ≡ only (spell (row_of op) (instr op rd rs1 rs2 imm))
  source_again is fits room =
      asm.source_line op _ rs1 base is (register_written rs1 fits.1) room
      ∙ ap (λ rd. only (spell (row_of op) (instr op rd rs1 0 0))) (sym fits.0)
      ∙ ap (λ rs2. only (spell (row_of op) (instr op rd rs1 rs2 0))) (sym fits.2)
      ∙ ap (λ imm. only (spell (row_of op) (instr op rd rs1 rs2 imm))) (sym fits.3)

  bare_again : form_of (row_of op) ≡ form_of (Whole 0 0 0) → bare_word op [] ≡ Ok (spell (row_of op) (instr op 0 0 0 0)) → Fits (Whole 0 0 0) (instr op rd rs1 rs2 imm) → base + 4 ≤ 2 ^ 32 → asm_of (name_of op) base ≡ only (spell (row_of op) (instr op rd rs1 rs2 imm))
  bare_again is word fits room =
      asm.bare_line op _ base is word room
      ∙ ap (λ rd. only (spell (row_of op) (instr op rd 0 0 0))) (sym fits.0)
      ∙ ap (λ rs1. only (spell (row_of op) (instr op rd rs1 0 0))) (sym fits.1)
      ∙ ap (λ rs2. only (spell (row_of op) (instr op rd rs1 rs2 0))) (sym fits.2)
      ∙ ap (λ imm. only (spell (row_of op) (instr op rd rs1 rs2 imm))) (sym fits.3)

jump_again : (rd rs1 rs2 imm base : ℕ) → Fits (J 0) (instr Jal rd rs1 rs2 imm) → imm < 2 ^ 32 → base + 4 ≤ 2 ^ 32 → asm_of (name_of Jal ++ jump (instr Jal rd rs1 rs2 imm)) base ≡ only (spell (row_of Jal) (instr Jal rd rs1 rs2 imm))
jump_again rd rs1 rs2 imm base fits small room =
    let number = signed_reads imm small in
    ap (λ text. asm_of text base) (two_text (name_of Jal) (register rd) (signed imm))
    ∙ asm.jump_line _ _ number.0 rd imm base (register_written rd fits.0) number.1 number.2 fits.3 fits.4 room
    ∙ ap (λ rs1. only (spell (row_of Jal) (instr Jal rd rs1 0 imm))) (sym fits.1)
    ∙ ap (λ rs2. only (spell (row_of Jal) (instr Jal rd rs1 rs2 imm))) (sym fits.2)

-- an immediate is a word
word12 : (v : ℕ) → IsImmediate 12 v → v < 2 ^ 32
word12 v fits = grind (arith, nat_tests)

word13 : (v : ℕ) → IsImmediate 13 v → v < 2 ^ 32
word13 v fits = grind (arith, nat_tests)

word21 : (v : ℕ) → IsImmediate 21 v → v < 2 ^ 32
word21 v fits = grind (arith, nat_tests)

made : (n w : ℕ) → w ≡ n → only n ≡ only w
made n w is = ap only (sym is)

whole : (n w : ℕ) → n ≡ w → ◌≡◌ {A = Result ℕ AsmKind} (Ok n) (Ok w)
whole n w is = ap (λ (n : ℕ). let r : Result ℕ AsmKind = Ok n in r) is

op_again : (op : Op) (rd rs1 rs2 imm w base : ℕ) → Fits (row_of op) (instr op rd rs1 rs2 imm) → says_all op w ≡ true → w ≡ spell (row_of op) (instr op rd rs1 rs2 imm) → base + 4 ≤ 2 ^ 32 → asm_of (name_of op ++ operands (row_of op) (instr op rd rs1 rs2 imm)) base ≡ only w
unfolding bare_word word_with immediate_of
op_again Lui rd rs1 rs2 imm w base fits said is room = upper_again Lui rd rs1 rs2 imm base refl fits room ∙ made _ w is
op_again Auipc rd rs1 rs2 imm w base fits said is room = upper_again Auipc rd rs1 rs2 imm base refl fits room ∙ made _ w is
op_again Jal rd rs1 rs2 imm w base fits said is room = jump_again rd rs1 rs2 imm base fits (word21 imm fits.3) room ∙ made _ w is
op_again Jalr rd rs1 rs2 imm w base fits said is room = load_again Jalr rd rs1 rs2 imm base refl fits (word12 imm fits.3) room ∙ made _ w is
op_again Beq rd rs1 rs2 imm w base fits said is room = branch_again Beq rd rs1 rs2 imm base refl fits (word13 imm fits.3) room ∙ made _ w is
op_again Bne rd rs1 rs2 imm w base fits said is room = branch_again Bne rd rs1 rs2 imm base refl fits (word13 imm fits.3) room ∙ made _ w is
op_again Blt rd rs1 rs2 imm w base fits said is room = branch_again Blt rd rs1 rs2 imm base refl fits (word13 imm fits.3) room ∙ made _ w is
op_again Bge rd rs1 rs2 imm w base fits said is room = branch_again Bge rd rs1 rs2 imm base refl fits (word13 imm fits.3) room ∙ made _ w is
op_again Bltu rd rs1 rs2 imm w base fits said is room = branch_again Bltu rd rs1 rs2 imm base refl fits (word13 imm fits.3) room ∙ made _ w is
op_again Bgeu rd rs1 rs2 imm w base fits said is room = branch_again Bgeu rd rs1 rs2 imm base refl fits (word13 imm fits.3) room ∙ made _ w is
op_again Lb rd rs1 rs2 imm w base fits said is room = load_again Lb rd rs1 rs2 imm base refl fits (word12 imm fits.3) room ∙ made _ w is
op_again Lh rd rs1 rs2 imm w base fits said is room = load_again Lh rd rs1 rs2 imm base refl fits (word12 imm fits.3) room ∙ made _ w is
op_again Lw rd rs1 rs2 imm w base fits said is room = load_again Lw rd rs1 rs2 imm base refl fits (word12 imm fits.3) room ∙ made _ w is
op_again Lbu rd rs1 rs2 imm w base fits said is room = load_again Lbu rd rs1 rs2 imm base refl fits (word12 imm fits.3) room ∙ made _ w is
op_again Lhu rd rs1 rs2 imm w base fits said is room = load_again Lhu rd rs1 rs2 imm base refl fits (word12 imm fits.3) room ∙ made _ w is
op_again Sb rd rs1 rs2 imm w base fits said is room = store_again Sb rd rs1 rs2 imm base refl fits (word12 imm fits.3) room ∙ made _ w is
op_again Sh rd rs1 rs2 imm w base fits said is room = store_again Sh rd rs1 rs2 imm base refl fits (word12 imm fits.3) room ∙ made _ w is
op_again Sw rd rs1 rs2 imm w base fits said is room = store_again Sw rd rs1 rs2 imm base refl fits (word12 imm fits.3) room ∙ made _ w is
op_again Addi rd rs1 rs2 imm w base fits said is room = immediate_again Addi rd rs1 rs2 imm base refl fits (word12 imm fits.3) room ∙ made _ w is
op_again Slti rd rs1 rs2 imm w base fits said is room = immediate_again Slti rd rs1 rs2 imm base refl fits (word12 imm fits.3) room ∙ made _ w is
op_again Sltiu rd rs1 rs2 imm w base fits said is room = immediate_again Sltiu rd rs1 rs2 imm base refl fits (word12 imm fits.3) room ∙ made _ w is
op_again Xori rd rs1 rs2 imm w base fits said is room = immediate_again Xori rd rs1 rs2 imm base refl fits (word12 imm fits.3) room ∙ made _ w is
op_again Ori rd rs1 rs2 imm w base fits said is room = immediate_again Ori rd rs1 rs2 imm base refl fits (word12 imm fits.3) room ∙ made _ w is
op_again Andi rd rs1 rs2 imm w base fits said is room = immediate_again Andi rd rs1 rs2 imm base refl fits (word12 imm fits.3) room ∙ made _ w is
op_again Slli rd rs1 rs2 imm w base fits said is room = shift_again Slli rd rs1 rs2 imm base refl fits room ∙ made _ w is
op_again Srli rd rs1 rs2 imm w base fits said is room = shift_again Srli rd rs1 rs2 imm base refl fits room ∙ made _ w is
op_again Srai rd rs1 rs2 imm w base fits said is room = shift_again Srai rd rs1 rs2 imm base refl fits room ∙ made _ w is
op_again Add rd rs1 rs2 imm w base fits said is room = three_again Add rd rs1 rs2 imm base refl fits room ∙ made _ w is
op_again Sub rd rs1 rs2 imm w base fits said is room = three_again Sub rd rs1 rs2 imm base refl fits room ∙ made _ w is
op_again Sll rd rs1 rs2 imm w base fits said is room = three_again Sll rd rs1 rs2 imm base refl fits room ∙ made _ w is
op_again Slt rd rs1 rs2 imm w base fits said is room = three_again Slt rd rs1 rs2 imm base refl fits room ∙ made _ w is
op_again Sltu rd rs1 rs2 imm w base fits said is room = three_again Sltu rd rs1 rs2 imm base refl fits room ∙ made _ w is
op_again Xor rd rs1 rs2 imm w base fits said is room = three_again Xor rd rs1 rs2 imm base refl fits room ∙ made _ w is
op_again Srl rd rs1 rs2 imm w base fits said is room = three_again Srl rd rs1 rs2 imm base refl fits room ∙ made _ w is
op_again Sra rd rs1 rs2 imm w base fits said is room = three_again Sra rd rs1 rs2 imm base refl fits room ∙ made _ w is
op_again Or rd rs1 rs2 imm w base fits said is room = three_again Or rd rs1 rs2 imm base refl fits room ∙ made _ w is
op_again And rd rs1 rs2 imm w base fits said is room = three_again And rd rs1 rs2 imm base refl fits room ∙ made _ w is
op_again Fence rd rs1 rs2 imm w base fits said is room = asm.bare_line Fence w base refl (whole 0x0FF0000F w (sym (eqb-true w 0x0FF0000F said))) room
op_again FenceI rd rs1 rs2 imm w base fits said is room = asm.bare_line FenceI w base refl (whole 0x0000100F w (sym (eqb-true w 0x0000100F said))) room
op_again Ecall rd rs1 rs2 imm w base fits said is room = bare_again Ecall rd rs1 rs2 imm base refl refl fits room ∙ made _ w is
op_again Ebreak rd rs1 rs2 imm w base fits said is room = bare_again Ebreak rd rs1 rs2 imm base refl refl fits room ∙ made _ w is
op_again Csrrw rd rs1 rs2 imm w base fits said is room = access_again Csrrw rd rs1 rs2 imm base refl fits room ∙ made _ w is
op_again Csrrs rd rs1 rs2 imm w base fits said is room = access_again Csrrs rd rs1 rs2 imm base refl fits room ∙ made _ w is
op_again Csrrc rd rs1 rs2 imm w base fits said is room = access_again Csrrc rd rs1 rs2 imm base refl fits room ∙ made _ w is
op_again Csrrwi rd rs1 rs2 imm w base fits said is room = access_number_again Csrrwi rd rs1 rs2 imm base refl fits room ∙ made _ w is
op_again Csrrsi rd rs1 rs2 imm w base fits said is room = access_number_again Csrrsi rd rs1 rs2 imm base refl fits room ∙ made _ w is
op_again Csrrci rd rs1 rs2 imm w base fits said is room = access_number_again Csrrci rd rs1 rs2 imm base refl fits room ∙ made _ w is
op_again Sret rd rs1 rs2 imm w base fits said is room = bare_again Sret rd rs1 rs2 imm base refl refl fits room ∙ made _ w is
op_again Mret rd rs1 rs2 imm w base fits said is room = bare_again Mret rd rs1 rs2 imm base refl refl fits room ∙ made _ w is
op_again Wfi rd rs1 rs2 imm w base fits said is room = bare_again Wfi rd rs1 rs2 imm base refl refl fits room ∙ made _ w is
op_again SfenceVma rd rs1 rs2 imm w base fits said is room = pair_again SfenceVma rd rs1 rs2 imm base refl fits room ∙ made _ w is
op_again Vmenter rd rs1 rs2 imm w base fits said is room = source_again Vmenter rd rs1 rs2 imm base refl fits room ∙ made _ w is

instr_again : (i : Instr) (w base : ℕ) → Row i w → says_all i.op w ≡ true → base + 4 ≤ 2 ^ 32 → asm_of (instr_line i) base ≡ only w
unfolding instr_line
instr_again i w base row said room = op_again i.op i.rd i.rs1 i.rs2 i.imm w base row.fits said row.word room

-- a word that is no instruction's
word_again : (w base : ℕ) → w < 2 ^ 32 → base + 4 ≤ 2 ^ 32 → asm_of (word_line w) base ≡ only w
unfolding word_line upper_digits lower_digits
word_again w base small room =
    ap (λ (digits : List ℕ). asm_of (codes ".word 0x" ++ digits) base) (sym (eight w small))
    ∙ asm.word_line _ w base
    (eight_read w (field_of w 28 4) (field_of w 24 4) (field_of w 20 4) (field_of w 16 4) (field_of w 12 4) (field_of w 8 4) (field_of w 4 4) (field_of w 0 4)
    (omega arith) (omega arith) (omega arith) (omega arith) (omega arith) (omega arith) (omega arith) (omega arith) (omega arith) small)
    small room

line_again : (w base : ℕ) (o : Option Instr) → IfSome o (λ i. Row i w) → w < 2 ^ 32 → base + 4 ≤ 2 ^ 32 → asm_of (line_of w o) base ≡ only w
line_again w base None row small room = word_again w base small room
line_again w base (Some i) row small room =
    let go : (b : Bool) → says_all i.op w ≡ b → asm_of (cond b (instr_line i) (word_line w)) base ≡ only w =
    λ b said. elim b as (λ b. says_all i.op w ≡ b → asm_of (cond b (instr_line i) (word_line w)) base ≡ only w)
    [ true ↦ λ said. instr_again i w base row said room | false ↦ λ said. word_again w base small room ] said
    in go (says_all i.op w) refl

pub dis_again : (w base : ℕ) → w < 2 ^ 32 → base + 4 ≤ 2 ^ 32 → asm_of (dis_of w) base ≡ Ok (w ∷ [])
unfolding dis_of
dis_again w base small room = line_again w base (decode_of w) (Row-decoded w small) small room
