-- A word has one row at most, and `decode_of` is the inverse of `spell`.
use Rattle.std.proofs.Common.{ℕ, ◌≡◌, ◌^◌, ◌<◌, Bool, true, false, cond, List, [], ◌∷◌, Option, Some, None, IfSome, refl, sym, ◌∙◌, ap, subst, arith, lit<}
use Rattle.std.specs.Prelude.{find}
use Rattle.std.specs.Option.{option_map}
use Rattle.hv_isa.specs.declared.Instr.{Instr}
use Rattle.hv_isa.specs.declared.Op.{Op}
use Rattle.hv_isa.specs.declared.Op.TheVariants.{Lui, Auipc, Jal, Jalr, Beq, Bne, Blt, Bge, Bltu, Bgeu, Lb, Lh, Lw, Lbu, Lhu, Sb, Sh, Sw, Addi, Slti, Sltiu, Xori, Ori, Andi, Slli, Srli, Srai, Add, Sub, Sll, Slt, Sltu, Xor, Srl, Sra, Or, And, Fence, FenceI, Ecall, Ebreak, Csrrw, Csrrs, Csrrc, Csrrwi, Csrrsi, Csrrci, Sret, Mret, Wfi, SfenceVma, Vmenter}
use Rattle.hv_isa.specs.Table.{Shape, U, J, B, I, S, R, Shift, Csr, Pair, One, Whole, Fits, spell, has_word, fields_of, fixed_of, row_of, ops, op_of, decode_of, Row, NamesRegs}
use Rattle.hv_isa.proofs.Spelling.{Agrees, Agrees-from_row, Agrees-spelled, IsSound, Fits-read, read-spelled, spell-read}

-- each row's fixed fields fit their places
IsSound-row : (op : Op) → IsSound (row_of op)
IsSound-row Lui = lit< tt
IsSound-row Auipc = lit< tt
IsSound-row Jal = lit< tt
IsSound-row Jalr = (lit< tt, lit< tt)
IsSound-row Beq = (lit< tt, lit< tt)
IsSound-row Bne = (lit< tt, lit< tt)
IsSound-row Blt = (lit< tt, lit< tt)
IsSound-row Bge = (lit< tt, lit< tt)
IsSound-row Bltu = (lit< tt, lit< tt)
IsSound-row Bgeu = (lit< tt, lit< tt)
IsSound-row Lb = (lit< tt, lit< tt)
IsSound-row Lh = (lit< tt, lit< tt)
IsSound-row Lw = (lit< tt, lit< tt)
IsSound-row Lbu = (lit< tt, lit< tt)
IsSound-row Lhu = (lit< tt, lit< tt)
IsSound-row Sb = (lit< tt, lit< tt)
IsSound-row Sh = (lit< tt, lit< tt)
IsSound-row Sw = (lit< tt, lit< tt)
IsSound-row Addi = (lit< tt, lit< tt)
IsSound-row Slti = (lit< tt, lit< tt)
IsSound-row Sltiu = (lit< tt, lit< tt)
IsSound-row Xori = (lit< tt, lit< tt)
IsSound-row Ori = (lit< tt, lit< tt)
IsSound-row Andi = (lit< tt, lit< tt)
IsSound-row Slli = (lit< tt, lit< tt, lit< tt)
IsSound-row Srli = (lit< tt, lit< tt, lit< tt)
IsSound-row Srai = (lit< tt, lit< tt, lit< tt)
IsSound-row Add = (lit< tt, lit< tt, lit< tt)
IsSound-row Sub = (lit< tt, lit< tt, lit< tt)
IsSound-row Sll = (lit< tt, lit< tt, lit< tt)
IsSound-row Slt = (lit< tt, lit< tt, lit< tt)
IsSound-row Sltu = (lit< tt, lit< tt, lit< tt)
IsSound-row Xor = (lit< tt, lit< tt, lit< tt)
IsSound-row Srl = (lit< tt, lit< tt, lit< tt)
IsSound-row Sra = (lit< tt, lit< tt, lit< tt)
IsSound-row Or = (lit< tt, lit< tt, lit< tt)
IsSound-row And = (lit< tt, lit< tt, lit< tt)
IsSound-row Fence = (lit< tt, lit< tt)
IsSound-row FenceI = (lit< tt, lit< tt)
IsSound-row Ecall = (lit< tt, lit< tt, lit< tt)
IsSound-row Ebreak = (lit< tt, lit< tt, lit< tt)
IsSound-row Csrrw = (lit< tt, lit< tt)
IsSound-row Csrrs = (lit< tt, lit< tt)
IsSound-row Csrrc = (lit< tt, lit< tt)
IsSound-row Csrrwi = (lit< tt, lit< tt)
IsSound-row Csrrsi = (lit< tt, lit< tt)
IsSound-row Csrrci = (lit< tt, lit< tt)
IsSound-row Sret = (lit< tt, lit< tt, lit< tt)
IsSound-row Mret = (lit< tt, lit< tt, lit< tt)
IsSound-row Wfi = (lit< tt, lit< tt, lit< tt)
IsSound-row SfenceVma = (lit< tt, lit< tt, lit< tt)
IsSound-row Vmenter = (lit< tt, lit< tt)

-- a word with a row's fixed fields has no earlier row
op_of-row : (op : Op) (w : ℕ) → Agrees (fixed_of (row_of op)) w → op_of w ≡ Some op
op_of-row Lui w a = rw a.opcode refl
op_of-row Auipc w a = rw a.opcode refl
op_of-row Jal w a = rw a.opcode refl
op_of-row Jalr w a = rw (a.opcode, a.f3) refl
op_of-row Beq w a = rw (a.opcode, a.f3) refl
op_of-row Bne w a = rw (a.opcode, a.f3) refl
op_of-row Blt w a = rw (a.opcode, a.f3) refl
op_of-row Bge w a = rw (a.opcode, a.f3) refl
op_of-row Bltu w a = rw (a.opcode, a.f3) refl
op_of-row Bgeu w a = rw (a.opcode, a.f3) refl
op_of-row Lb w a = rw (a.opcode, a.f3) refl
op_of-row Lh w a = rw (a.opcode, a.f3) refl
op_of-row Lw w a = rw (a.opcode, a.f3) refl
op_of-row Lbu w a = rw (a.opcode, a.f3) refl
op_of-row Lhu w a = rw (a.opcode, a.f3) refl
op_of-row Sb w a = rw (a.opcode, a.f3) refl
op_of-row Sh w a = rw (a.opcode, a.f3) refl
op_of-row Sw w a = rw (a.opcode, a.f3) refl
op_of-row Addi w a = rw (a.opcode, a.f3) refl
op_of-row Slti w a = rw (a.opcode, a.f3) refl
op_of-row Sltiu w a = rw (a.opcode, a.f3) refl
op_of-row Xori w a = rw (a.opcode, a.f3) refl
op_of-row Ori w a = rw (a.opcode, a.f3) refl
op_of-row Andi w a = rw (a.opcode, a.f3) refl
op_of-row Slli w a = rw (a.opcode, a.f3, a.f7) refl
op_of-row Srli w a = rw (a.opcode, a.f3, a.f7) refl
op_of-row Srai w a = rw (a.opcode, a.f3, a.f7) refl
op_of-row Add w a = rw (a.opcode, a.f3, a.f7) refl
op_of-row Sub w a = rw (a.opcode, a.f3, a.f7) refl
op_of-row Sll w a = rw (a.opcode, a.f3, a.f7) refl
op_of-row Slt w a = rw (a.opcode, a.f3, a.f7) refl
op_of-row Sltu w a = rw (a.opcode, a.f3, a.f7) refl
op_of-row Xor w a = rw (a.opcode, a.f3, a.f7) refl
op_of-row Srl w a = rw (a.opcode, a.f3, a.f7) refl
op_of-row Sra w a = rw (a.opcode, a.f3, a.f7) refl
op_of-row Or w a = rw (a.opcode, a.f3, a.f7) refl
op_of-row And w a = rw (a.opcode, a.f3, a.f7) refl
op_of-row Fence w a = rw (a.opcode, a.f3) refl
op_of-row FenceI w a = rw (a.opcode, a.f3) refl
op_of-row Ecall w a = rw (a.opcode, a.f3, a.f7, a.rd, a.rs1, a.rs2) refl
op_of-row Ebreak w a = rw (a.opcode, a.f3, a.f7, a.rd, a.rs1, a.rs2) refl
op_of-row Csrrw w a = rw (a.opcode, a.f3) refl
op_of-row Csrrs w a = rw (a.opcode, a.f3) refl
op_of-row Csrrc w a = rw (a.opcode, a.f3) refl
op_of-row Csrrwi w a = rw (a.opcode, a.f3) refl
op_of-row Csrrsi w a = rw (a.opcode, a.f3) refl
op_of-row Csrrci w a = rw (a.opcode, a.f3) refl
op_of-row Sret w a = rw (a.opcode, a.f3, a.f7, a.rd, a.rs1, a.rs2) refl
op_of-row Mret w a = rw (a.opcode, a.f3, a.f7, a.rd, a.rs1, a.rs2) refl
op_of-row Wfi w a = rw (a.opcode, a.f3, a.f7, a.rd, a.rs1, a.rs2) refl
op_of-row SfenceVma w a = rw (a.opcode, a.f3, a.f7, a.rd) refl
op_of-row Vmenter w a = rw (a.opcode, a.f3, a.f7, a.rd, a.rs2) refl

op-fields : (s : Shape) (op : Op) (w : ℕ) → (fields_of s op w).op ≡ op
op-fields (U _) op w = refl
op-fields (J _) op w = refl
op-fields (B _ _) op w = refl
op-fields (I _ _) op w = refl
op-fields (S _ _) op w = refl
op-fields (R _ _ _) op w = refl
op-fields (Shift _ _ _) op w = refl
op-fields (Csr _ _) op w = refl
op-fields (Pair _ _ _) op w = refl
op-fields (One _ _) op w = refl
op-fields (Whole _ _ _) op w = refl

-- what `find` finds passes its test
find-passes : (test : Op → Bool) (xs : List Op) → IfSome (find test xs) (λ op. test op ≡ true)
find-passes test [] = tt
find-passes test (x ∷ xs) = if_passes (test x) refl (find-passes test xs) where
  if_passes : (b : Bool) → test x ≡ b → IfSome (find test xs) (λ op. test op ≡ true) → IfSome (cond b (Some x) (find test xs)) (λ op. test op ≡ true)
  if_passes true e h = e
  if_passes false e h = h

Row-from : (s : Shape) (i : Instr) (w : ℕ) → row_of i.op ≡ s → Fits s i → w ≡ spell s i → Row i w
Row-from s i w e f h = record {
  fits = subst (λ x. Fits x i) (sym e) f;
  word = subst (λ x. w ≡ spell x i) (sym e) h;
}

Row-read : (op : Op) (w : ℕ) → w < 2 ^ 32 → has_word (row_of op) w ≡ true → Row (fields_of (row_of op) op w) w
Row-read op w l h =
    let s = row_of op in
    Row-from s (fields_of s op w) w (ap row_of (op-fields s op w)) (Fits-read s op w l) (sym (spell-read s op w l (Agrees-from_row s w h)))

-- what is decoded is a row of the word
pub Row-decoded : (w : ℕ) → w < 2 ^ 32 → IfSome (decode_of w) (λ i. Row i w)
unfolding decode_of
Row-decoded w l = go (op_of w) (find-passes (λ op. has_word (row_of op) w) ops) where
  go : (o : Option Op) → IfSome o (λ op. has_word (row_of op) w ≡ true) → IfSome (option_map (λ op. fields_of (row_of op) op w) o) (λ i. Row i w)
  go None h = tt
  go (Some op) h = Row-read op w l h

-- and each row of the word is what is decoded
pub decode_of-row : (i : Instr) (w : ℕ) → Row i w → decode_of w ≡ Some i
unfolding decode_of
decode_of-row i w r =
    let s = row_of i.op in
    let d = IsSound-row i.op in
    let a : Agrees (fixed_of s) w = subst (λ x. Agrees (fixed_of s) x) (sym r.word) (Agrees-spelled s i d r.fits) in
    ap (option_map (λ op. fields_of (row_of op) op w)) (op_of-row i.op w a)
    ∙ ap (λ x. Some (fields_of s i.op x)) r.word
    ∙ ap Some (read-spelled s i d r.fits)

NamesRegs-from : (s : Shape) (i : Instr) → Fits s i → NamesRegs i
NamesRegs-from (U _) i f = record { rd = omega arith; rs1 = omega arith; rs2 = omega arith }
NamesRegs-from (J _) i f = record { rd = omega arith; rs1 = omega arith; rs2 = omega arith }
NamesRegs-from (B _ _) i f = record { rd = omega arith; rs1 = omega arith; rs2 = omega arith }
NamesRegs-from (I _ _) i f = record { rd = omega arith; rs1 = omega arith; rs2 = omega arith }
NamesRegs-from (S _ _) i f = record { rd = omega arith; rs1 = omega arith; rs2 = omega arith }
NamesRegs-from (R _ _ _) i f = record { rd = omega arith; rs1 = omega arith; rs2 = omega arith }
NamesRegs-from (Shift _ _ _) i f = record { rd = omega arith; rs1 = omega arith; rs2 = omega arith }
NamesRegs-from (Csr _ _) i f = record { rd = omega arith; rs1 = omega arith; rs2 = omega arith }
NamesRegs-from (Pair _ _ _) i f = record { rd = omega arith; rs1 = omega arith; rs2 = omega arith }
NamesRegs-from (One _ _) i f = record { rd = omega arith; rs1 = omega arith; rs2 = omega arith }
NamesRegs-from (Whole _ _ _) i f = record { rd = omega arith; rs1 = omega arith; rs2 = omega arith }

-- the registers that an instruction names are registers
pub NamesRegs-decoded : (w : ℕ) → w < 2 ^ 32 → IfSome (decode_of w) NamesRegs
NamesRegs-decoded w l = go (decode_of w) (Row-decoded w l) where
  go : (o : Option Instr) → IfSome o (λ i. Row i w) → IfSome o NamesRegs
  go None h = tt
  go (Some i) h = NamesRegs-from (row_of i.op) i h.fits
