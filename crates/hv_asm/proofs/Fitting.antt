-- A number in its range gives an immediate that fits its row.
use Rattle.std.proofs.Common.{◌≡◌, ℕ, ◌%◌, ◌^◌, ◌<◌, ◌≤◌, nat_eq, nat_lt, Bool, true, false, cond, ◌&&◌, Result, Ok, Err, refl, sym, ap, ◌∙◌, subst, arith}
use Rattle.std.proofs.lemmas.Bool.{ltb-true, leb-true, eqb-true}
use Rattle.std.proofs.lemmas.Bool.Decides.{nat_tests}
use Rattle.hv_isa.specs.declared.Op.{Op}
use Rattle.hv_isa.specs.declared.Instr.{Instr}
use Rattle.hv_isa.specs.Table.{Shape, U, J, B, I, S, R, Shift, Csr, Pair, One, Whole, Fits, IsImmediate, row_of, spell}
use Rattle.hv_asm.specs.Amounts.{within, within_signed, is_even, word_of}
use Rattle.hv_asm.specs.Forms.{form_of, immediate_of, UsesRegisters, ranged, word_with}
use Rattle.hv_asm.specs.declared.AsmKind.{AsmKind}
use Rattle.hv_asm.specs.declared.amounts.Amount.{Amount}
use Rattle.hv_asm.specs.declared.amounts.Amount.TheVariants.{Plus, Minus}
use Rattle.hv_asm.specs.declared.forms.Form.{Form}
use Rattle.hv_asm.specs.declared.forms.Form.TheVariants.{Immediate, Load, CsrRegister, CsrNumber, Bare}
use Rattle.hv_lex.specs.Refusing.{◌>>=◌}

pub ranged_ok : (b : Bool) (n imm : ℕ) → ranged b n ≡ Ok imm → (b ≡ true) × (n ≡ imm)
ranged_ok true n imm is = let e : n ≡ imm = cc in (refl, e)
ranged_ok false n imm is = cc

pub both : (a b : Bool) → (a && b) ≡ true → (a ≡ true) × (b ≡ true)
both true b e = (refl, e)
both false b e = cc

signed12 : (a : Amount) → within_signed 2048 a ≡ true → IsImmediate 12 (word_of a)
signed12 (Plus n) e = let h : n < 2048 = ltb-true n 2048 e in grind (arith, nat_tests)
signed12 (Minus n) e = let h : n ≤ 2048 = leb-true n 2048 e in grind (arith, nat_tests)

signed13 : (a : Amount) → within_signed 4096 a ≡ true → IsImmediate 13 (word_of a)
signed13 (Plus n) e = let h : n < 4096 = ltb-true n 4096 e in grind (arith, nat_tests)
signed13 (Minus n) e = let h : n ≤ 4096 = leb-true n 4096 e in grind (arith, nat_tests)

signed21 : (a : Amount) → within_signed 1048576 a ≡ true → IsImmediate 21 (word_of a)
signed21 (Plus n) e = let h : n < 1048576 = ltb-true n 1048576 e in grind (arith, nat_tests)
signed21 (Minus n) e = let h : n ≤ 1048576 = leb-true n 1048576 e in grind (arith, nat_tests)

even_word : (a : Amount) → is_even a ≡ true → word_of a % 2 ≡ 0
even_word (Plus n) e = let h : n % 2 ≡ 0 = eqb-true (n % 2) 0 e in omega arith
even_word (Minus n) e = let h : n % 2 ≡ 0 = eqb-true (n % 2) 0 e in omega arith

pub below : (bound : ℕ) (a : Amount) → 0 < bound → bound ≤ 2 ^ 32 → within bound a ≡ true → word_of a < bound
below bound (Plus n) some most e = let h : n < bound = ltb-true n bound e in omega arith
below bound (Minus n) some most e = let h : n ≡ 0 = eqb-true n 0 e in rw h some

module _ (op : Op) (rd rs1 rs2 imm : ℕ) (a : Amount) where
  abbrev instr : Instr
  instr = record { op = op; rd = rd; rs1 = rs1; rs2 = rs2; imm = imm }

  fits_immediate : (rd < 32) × (rs1 < 32) × (rs2 ≡ 0) → ranged (within_signed 2048 a) (word_of a) ≡ Ok imm → (rd < 32) × (rs1 < 32) × (rs2 ≡ 0) × IsImmediate 12 imm
  fits_immediate regs is = let r = ranged_ok _ _ _ is in (regs.0, regs.1, regs.2, subst (λ n. IsImmediate 12 n) r.1 (signed12 a r.0))

  fits_bare : (rd ≡ 0) × (rs1 ≡ 0) × (rs2 ≡ 0) → (let r : Result ℕ AsmKind = Ok 0 in r) ≡ Ok imm → (rd < 32) × (rs1 < 32) × (rs2 ≡ 0) × IsImmediate 12 imm
  fits_bare regs is = let e : imm ≡ 0 = cc in (omega arith, omega arith, regs.2, rw e refl)

  fits_i : (opcode : ℕ) → UsesRegisters (cond (nat_eq opcode 0x13) Immediate (cond (nat_eq opcode 0x0f) Bare Load)) rd rs1 rs2 → immediate_of (cond (nat_eq opcode 0x13) Immediate (cond (nat_eq opcode 0x0f) Bare Load)) a ≡ Ok imm → (rd < 32) × (rs1 < 32) × (rs2 ≡ 0) × IsImmediate 12 imm
  unfolding immediate_of
  fits_i opcode regs is =
      elim (nat_eq opcode 0x13) as (λ b. UsesRegisters (cond b Immediate (cond (nat_eq opcode 0x0f) Bare Load)) rd rs1 rs2 → immediate_of (cond b Immediate (cond (nat_eq opcode 0x0f) Bare Load)) a ≡ Ok imm → (rd < 32) × (rs1 < 32) × (rs2 ≡ 0) × IsImmediate 12 imm) [
        | true ↦ λ regs is. fits_immediate regs is
        | false ↦ λ regs is.
            elim (nat_eq opcode 0x0f) as (λ b. UsesRegisters (cond b Bare Load) rd rs1 rs2 → immediate_of (cond b Bare Load) a ≡ Ok imm → (rd < 32) × (rs1 < 32) × (rs2 ≡ 0) × IsImmediate 12 imm)
            [ true ↦ λ regs is. fits_bare regs is | false ↦ λ regs is. fits_immediate regs is ] regs is
      ] regs is

  fits_csr : (f3 : ℕ) → UsesRegisters (cond (nat_lt f3 4) CsrRegister CsrNumber) rd rs1 rs2 → immediate_of (cond (nat_lt f3 4) CsrRegister CsrNumber) a ≡ Ok imm → (rd < 32) × (rs1 < 32) × (rs2 ≡ 0) × (imm < 4096)
  unfolding immediate_of
  fits_csr f3 regs is =
      let one : (rd < 32) × (rs1 < 32) × (rs2 ≡ 0) → ranged (within 4096 a) (word_of a) ≡ Ok imm → (rd < 32) × (rs1 < 32) × (rs2 ≡ 0) × (imm < 4096) =
      λ regs is. let r = ranged_ok _ _ _ is in (regs.0, regs.1, regs.2, subst (λ n. n < 4096) r.1 (below 4096 a (omega arith) (omega arith) r.0))
      in elim (nat_lt f3 4) as (λ b. UsesRegisters (cond b CsrRegister CsrNumber) rd rs1 rs2 → immediate_of (cond b CsrRegister CsrNumber) a ≡ Ok imm → (rd < 32) × (rs1 < 32) × (rs2 ≡ 0) × (imm < 4096))
      [ true ↦ λ regs is. one regs is | false ↦ λ regs is. one regs is ] regs is

  pub fits_row : (s : Shape) → UsesRegisters (form_of s) rd rs1 rs2 → immediate_of (form_of s) a ≡ Ok imm → Fits s instr
  unfolding immediate_of
  fits_row (U o) regs is =
      let r = ranged_ok _ _ _ is in
      let h : word_of a < 1048576 = below 1048576 a (omega arith) (omega arith) r.0 in
      (regs.0, regs.1, regs.2, omega (arith, r.1), omega (arith, r.1))
  fits_row (J o) regs is =
      let r = ranged_ok _ _ _ is in
      let b = both _ _ r.0 in
      (regs.0, regs.1, regs.2, subst (λ n. IsImmediate 21 n) r.1 (signed21 a b.0), subst (λ n. n % 2 ≡ 0) r.1 (even_word a b.1))
  fits_row (B o f3) regs is =
      let r = ranged_ok _ _ _ is in
      let b = both _ _ r.0 in
      (regs.0, regs.1, regs.2, subst (λ n. IsImmediate 13 n) r.1 (signed13 a b.0), subst (λ n. n % 2 ≡ 0) r.1 (even_word a b.1))
  fits_row (I o f3) regs is = fits_i o regs is
  fits_row (S o f3) regs is = let r = ranged_ok _ _ _ is in (regs.0, regs.1, regs.2, subst (λ n. IsImmediate 12 n) r.1 (signed12 a r.0))
  fits_row (R o f3 f7) regs is = let e : imm ≡ 0 = cc in (regs.0, regs.1, regs.2, e)
  fits_row (Shift o f3 f7) regs is = let r = ranged_ok _ _ _ is in (regs.0, regs.1, regs.2, subst (λ n. n < 32) r.1 (below 32 a (omega arith) (omega arith) r.0))
  fits_row (Csr o f3) regs is = fits_csr f3 regs is
  fits_row (Pair o f3 f7) regs is = let e : imm ≡ 0 = cc in (regs.0, regs.1, regs.2, e)
  fits_row (One o f3) regs is = let e : imm ≡ 0 = cc in (regs.0, regs.1, regs.2, e)
  fits_row (Whole o f7 rs2) regs is = let e : imm ≡ 0 = cc in (regs.0, regs.1, regs.2, e)

-- the word that a number gives
pub word_ok : (op : Op) (rd rs1 rs2 imm w : ℕ) (a : Amount) (f : Form) → f ≡ form_of (row_of op) → immediate_of f a ≡ Ok imm → w ≡ spell (row_of op) (record { op = op; rd = rd; rs1 = rs1; rs2 = rs2; imm = imm }) → (let r : Result ℕ AsmKind = Ok w in r) ≡ word_with op rd rs1 rs2 a
unfolding word_with
word_ok op rd rs1 rs2 imm w a f form is word =
    let next : ℕ → Result ℕ AsmKind = λ imm. Ok (spell (row_of op) (record { op = op; rd = rd; rs1 = rs1; rs2 = rs2; imm = imm })) in
    ap (λ (w : ℕ). let r : Result ℕ AsmKind = Ok w in r) word ∙ ap (λ (r : Result ℕ AsmKind). r >>= next) (sym is ∙ ap (λ f. immediate_of f a) form)

pub word_bad : (op : Op) (rd rs1 rs2 : ℕ) (a : Amount) (f : Form) (e : AsmKind) → f ≡ form_of (row_of op) → immediate_of f a ≡ Err e → (let r : Result ℕ AsmKind = Err e in r) ≡ word_with op rd rs1 rs2 a
unfolding word_with
word_bad op rd rs1 rs2 a f e form is =
    let next : ℕ → Result ℕ AsmKind = λ imm. Ok (spell (row_of op) (record { op = op; rd = rd; rs1 = rs1; rs2 = rs2; imm = imm })) in
    ap (λ (r : Result ℕ AsmKind). r >>= next) (sym is ∙ ap (λ f. immediate_of f a) form)
