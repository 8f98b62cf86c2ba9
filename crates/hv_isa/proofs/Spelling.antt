-- Reading a word's fields and spelling them are inverse, shape by shape.
use Rattle.std.proofs.Common.{ℕ, ◌≡◌, ◌+◌, ◌*◌, ◌%◌, ◌^◌, ◌<◌, true, cond, nat_lt, Option, Some, None, refl, sym, ◌∙◌, ap, arith}
use Rattle.std.proofs.lemmas.Bool.{and_parts, and_from, eqb-true, eq-eqb}
use Rattle.std.proofs.lemmas.Bool.Decides.{nat_tests}
use Rattle.hv_word.specs.Words.{field_of, sext_of}
use Rattle.hv_isa.specs.declared.Instr.{Instr}
use Rattle.hv_isa.specs.declared.Op.{Op}
use Rattle.hv_isa.specs.Table.{Shape, U, J, B, I, S, R, Shift, Csr, Pair, One, Whole, Fits, IsImmediate, spell, has_word, fields_of, fixed_of, agrees, is_at, Fixed}

-- a field has its fixed value, if it has one
abbrev pub IsFixedAt : Option ℕ → ℕ → Type 0
IsFixedAt None v = Unit {0}
IsFixedAt (Some x) v = v ≡ x

pub record Agrees (f : Fixed) (w : ℕ) : Type 0 where
  pub opcode : field_of w 0 7 ≡ f.opcode
  pub f3 : IsFixedAt f.f3 (field_of w 12 3)
  pub f7 : IsFixedAt f.f7 (field_of w 25 7)
  pub rd : IsFixedAt f.rd (field_of w 7 5)
  pub rs1 : IsFixedAt f.rs1 (field_of w 15 5)
  pub rs2 : IsFixedAt f.rs2 (field_of w 20 5)

IsFixedAt-from : (o : Option ℕ) (v : ℕ) → agrees o v ≡ true → IsFixedAt o v
IsFixedAt-from None v h = tt
IsFixedAt-from (Some x) v h = eqb-true v x h

agrees-from : (o : Option ℕ) (v : ℕ) → IsFixedAt o v → agrees o v ≡ true
agrees-from None v h = refl
agrees-from (Some x) v h = eq-eqb v x h

Agrees-from_test : (f : Fixed) (w : ℕ) → is_at f (field_of w 0 7) (field_of w 7 5) (field_of w 12 3) (field_of w 15 5) (field_of w 20 5) (field_of w 25 7) ≡ true → Agrees f w
Agrees-from_test f w h =
    let p = and_parts _ _ h in
    let q = and_parts _ _ p.0 in
    let r = and_parts _ _ q.0 in
    let s = and_parts _ _ r.0 in
    let t = and_parts _ _ s.0 in
    record {
      opcode = eqb-true _ _ t.0;
      f3 = IsFixedAt-from f.f3 _ t.1;
      f7 = IsFixedAt-from f.f7 _ s.1;
      rd = IsFixedAt-from f.rd _ r.1;
      rs1 = IsFixedAt-from f.rs1 _ q.1;
      rs2 = IsFixedAt-from f.rs2 _ p.1;
    }

-- what a row's word has at the fixed fields
pub Agrees-from_row : (s : Shape) (w : ℕ) → has_word s w ≡ true → Agrees (fixed_of s) w
Agrees-from_row s w h = Agrees-from_test (fixed_of s) w h

pub has_word-from : (s : Shape) (w : ℕ) → Agrees (fixed_of s) w → has_word s w ≡ true
has_word-from s w h =
    let f = fixed_of s in
    and_from _ _ (and_from _ _ (and_from _ _ (and_from _ _ (and_from _ _ (eq-eqb _ _ h.opcode) (agrees-from f.f3 _ h.f3)) (agrees-from f.f7 _ h.f7)) (agrees-from f.rd _ h.rd)) (agrees-from f.rs1 _ h.rs1)) (agrees-from f.rs2 _ h.rs2)

-- the fixed fields fit their places
abbrev pub IsSound : Shape → Type 0
IsSound (U o) = o < 128
IsSound (J o) = o < 128
IsSound (B o f3) = (o < 128) × (f3 < 8)
IsSound (I o f3) = (o < 128) × (f3 < 8)
IsSound (S o f3) = (o < 128) × (f3 < 8)
IsSound (R o f3 f7) = (o < 128) × (f3 < 8) × (f7 < 128)
IsSound (Shift o f3 f7) = (o < 128) × (f3 < 8) × (f7 < 128)
IsSound (Csr o f3) = (o < 128) × (f3 < 8)
IsSound (Pair o f3 f7) = (o < 128) × (f3 < 8) × (f7 < 128)
IsSound (One o f3) = (o < 128) × (f3 < 8)
IsSound (Whole o f7 rs2) = (o < 128) × (f7 < 128) × (rs2 < 32)

-- sign extension, as two cases of plain numbers
pub IsImmediate-extended12 : (v : ℕ) → IsImmediate 12 (sext_of 12 v)
IsImmediate-extended12 v = grind (arith, nat_tests)

pub IsImmediate-extended13 : (v : ℕ) → IsImmediate 13 (sext_of 13 v)
IsImmediate-extended13 v = grind (arith, nat_tests)

pub IsImmediate-extended21 : (v : ℕ) → IsImmediate 21 (sext_of 21 v)
IsImmediate-extended21 v = grind (arith, nat_tests)

even-extended13 : (v : ℕ) → v % 2 ≡ 0 → sext_of 13 v % 2 ≡ 0
even-extended13 v h = grind (arith, nat_tests)

even-extended21 : (v : ℕ) → v % 2 ≡ 0 → sext_of 21 v % 2 ≡ 0
even-extended21 v h = grind (arith, nat_tests)

-- the low bits stay
low-extended12 : (v : ℕ) → sext_of 12 v % 4096 ≡ v % 4096
low-extended12 v = grind (arith, nat_tests)

low-extended13 : (v : ℕ) → sext_of 13 v % 8192 ≡ v % 8192
low-extended13 v = grind (arith, nat_tests)

low-extended21 : (v : ℕ) → sext_of 21 v % 2097152 ≡ v % 2097152
low-extended21 v = grind (arith, nat_tests)

same-extended12 : (u v : ℕ) → u % 4096 ≡ v % 4096 → sext_of 12 u ≡ sext_of 12 v
same-extended12 u v h = ap (λ x. cond (nat_lt x 2048) x (x + 4294963200)) h

same-extended13 : (u v : ℕ) → u % 8192 ≡ v % 8192 → sext_of 13 u ≡ sext_of 13 v
same-extended13 u v h = ap (λ x. cond (nat_lt x 4096) x (x + 4294959104)) h

same-extended21 : (u v : ℕ) → u % 2097152 ≡ v % 2097152 → sext_of 21 u ≡ sext_of 21 v
same-extended21 u v h = ap (λ x. cond (nat_lt x 1048576) x (x + 4292870144)) h

-- what is read fits
pub Fits-read : (s : Shape) (op : Op) (w : ℕ) → w < 2 ^ 32 → Fits s (fields_of s op w)
Fits-read (U o) op w h = (omega arith, refl, refl, omega arith, omega arith)
Fits-read (J o) op w h = (omega arith, refl, refl, IsImmediate-extended21 _, even-extended21 _ (omega arith))
Fits-read (B o f3) op w h = (refl, omega arith, omega arith, IsImmediate-extended13 _, even-extended13 _ (omega arith))
Fits-read (I o f3) op w h = (omega arith, omega arith, refl, IsImmediate-extended12 _)
Fits-read (S o f3) op w h = (refl, omega arith, omega arith, IsImmediate-extended12 _)
Fits-read (R o f3 f7) op w h = (omega arith, omega arith, omega arith, refl)
Fits-read (Shift o f3 f7) op w h = (omega arith, omega arith, refl, omega arith)
Fits-read (Csr o f3) op w h = (omega arith, omega arith, refl, omega arith)
Fits-read (Pair o f3 f7) op w h = (refl, omega arith, omega arith, refl)
Fits-read (One o f3) op w h = (refl, omega arith, refl, refl)
Fits-read (Whole o f7 rs2) op w h = (refl, refl, refl, refl)

-- what is read is spelled as the word was
pub spell-read : (s : Shape) (op : Op) (w : ℕ) → w < 2 ^ 32 → Agrees (fixed_of s) w → spell s (fields_of s op w) ≡ w
spell-read (U o) op w h a = omega (arith, a.opcode)
spell-read (J o) op w h a =
    let v = field_of w 21 10 * 2 + field_of w 20 1 * 2 ^ 11 + field_of w 12 8 * 2 ^ 12 + field_of w 31 1 * 2 ^ 20 in
    let e : sext_of 21 v % 2097152 ≡ v % 2097152 = low-extended21 v in
    omega (arith, a.opcode)
spell-read (B o f3) op w h a =
    let v = field_of w 8 4 * 2 + field_of w 25 6 * 2 ^ 5 + field_of w 7 1 * 2 ^ 11 + field_of w 31 1 * 2 ^ 12 in
    let e : sext_of 13 v % 8192 ≡ v % 8192 = low-extended13 v in
    omega (arith, a.opcode)
spell-read (I o f3) op w h a = let e = low-extended12 (field_of w 20 12) in omega arith
spell-read (S o f3) op w h a = let e = low-extended12 (field_of w 7 5 + field_of w 25 7 * 2 ^ 5) in omega arith
spell-read (R o f3 f7) op w h a = omega arith
spell-read (Shift o f3 f7) op w h a = omega arith
spell-read (Csr o f3) op w h a = omega arith
spell-read (Pair o f3 f7) op w h a = omega arith
spell-read (One o f3) op w h a = omega arith
spell-read (Whole o f7 rs2) op w h a = omega arith

-- what is spelled has the fixed fields
pub Agrees-spelled : (s : Shape) (i : Instr) → IsSound s → Fits s i → Agrees (fixed_of s) (spell s i)
Agrees-spelled (U o) i d f = record { opcode = omega arith; f3 = tt; f7 = tt; rd = tt; rs1 = tt; rs2 = tt }
Agrees-spelled (J o) i d f = record { opcode = omega arith; f3 = tt; f7 = tt; rd = tt; rs1 = tt; rs2 = tt }
Agrees-spelled (B o f3) i d f =
    record { opcode = omega arith; f3 = omega arith; f7 = tt; rd = tt; rs1 = tt; rs2 = tt }
Agrees-spelled (I o f3) i d f =
    record { opcode = omega arith; f3 = omega arith; f7 = tt; rd = tt; rs1 = tt; rs2 = tt }
Agrees-spelled (S o f3) i d f =
    record { opcode = omega arith; f3 = omega arith; f7 = tt; rd = tt; rs1 = tt; rs2 = tt }
Agrees-spelled (R o f3 f7) i d f =
    record { opcode = omega arith; f3 = omega arith; f7 = omega arith; rd = tt; rs1 = tt; rs2 = tt }
Agrees-spelled (Shift o f3 f7) i d f =
    record { opcode = omega arith; f3 = omega arith; f7 = omega arith; rd = tt; rs1 = tt; rs2 = tt }
Agrees-spelled (Csr o f3) i d f =
    record { opcode = omega arith; f3 = omega arith; f7 = tt; rd = tt; rs1 = tt; rs2 = tt }
Agrees-spelled (Pair o f3 f7) i d f =
    record { opcode = omega arith; f3 = omega arith; f7 = omega arith; rd = omega arith; rs1 = tt; rs2 = tt }
Agrees-spelled (One o f3) i d f =
    record { opcode = omega arith; f3 = omega arith; f7 = omega arith; rd = omega arith; rs1 = tt; rs2 = omega arith }
Agrees-spelled (Whole o f7 rs2) i d f =
    record { opcode = omega arith; f3 = omega arith; f7 = omega arith; rd = omega arith; rs1 = omega arith; rs2 = omega arith }

same_instr : (i j : Instr) → i.op ≡ j.op → i.rd ≡ j.rd → i.rs1 ≡ j.rs1 → i.rs2 ≡ j.rs2 → i.imm ≡ j.imm → i ≡ j
same_instr i j a b c d e =
    ap (λ (x : Op). record i { op = x }) a
    ∙ ap (λ (x : ℕ). record i { op = j.op; rd = x }) b
    ∙ ap (λ (x : ℕ). record i { op = j.op; rd = j.rd; rs1 = x }) c
    ∙ ap (λ (x : ℕ). record i { op = j.op; rd = j.rd; rs1 = j.rs1; rs2 = x }) d
    ∙ ap (λ (x : ℕ). record i { op = j.op; rd = j.rd; rs1 = j.rs1; rs2 = j.rs2; imm = x }) e

-- what is spelled is read as it was
pub read-spelled : (s : Shape) (i : Instr) → IsSound s → Fits s i → fields_of s i.op (spell s i) ≡ i
read-spelled (U o) i d f = same_instr _ i refl (omega arith) (omega arith) (omega arith) (omega arith)
read-spelled (J o) i d f =
    same_instr _ i refl (omega arith) (omega arith) (omega arith) (same-extended21 _ i.imm (omega arith) ∙ sym f.3)
read-spelled (B o f3) i d f =
    same_instr _ i refl (omega arith) (omega arith) (omega arith) (same-extended13 _ i.imm (omega arith) ∙ sym f.3)
read-spelled (I o f3) i d f =
    same_instr _ i refl (omega arith) (omega arith) (omega arith) (same-extended12 _ i.imm (omega arith) ∙ sym f.3)
read-spelled (S o f3) i d f =
    same_instr _ i refl (omega arith) (omega arith) (omega arith) (same-extended12 _ i.imm (omega arith) ∙ sym f.3)
read-spelled (R o f3 f7) i d f = same_instr _ i refl (omega arith) (omega arith) (omega arith) (omega arith)
read-spelled (Shift o f3 f7) i d f = same_instr _ i refl (omega arith) (omega arith) (omega arith) (omega arith)
read-spelled (Csr o f3) i d f = same_instr _ i refl (omega arith) (omega arith) (omega arith) (omega arith)
read-spelled (Pair o f3 f7) i d f = same_instr _ i refl (omega arith) (omega arith) (omega arith) (omega arith)
read-spelled (One o f3) i d f = same_instr _ i refl (omega arith) (omega arith) (omega arith) (omega arith)
read-spelled (Whole o f7 rs2) i d f = same_instr _ i refl (omega arith) (omega arith) (omega arith) (omega arith)
