-- The word of an instruction's line decodes to the instruction with the operands' values.
use Rattle.std.proofs.Common.{◌≡◌, ℕ, ◌*◌, ◌^◌, ◌<◌, lit<, lit≤, true, ℤ, pos, List, [], ◌∷◌, Option, Some, Result, Ok, refl, sym, ap, ◌∙◌, subst, arith}
use Rattle.std.specs.List.{AllZip}
use Rattle.hv_isa.specs.declared.Instr.{Instr}
use Rattle.hv_isa.specs.declared.Op.{Op}
use Rattle.hv_isa.specs.declared.Op.TheVariants.{Lui, Auipc, Jal, Jalr, Beq, Bne, Blt, Bge, Bltu, Bgeu, Lb, Lh, Lw, Lbu, Lhu, Sb, Sh, Sw, Addi, Slti, Sltiu, Xori, Ori, Andi, Slli, Srli, Srai, Add, Sub, Sll, Slt, Sltu, Xor, Srl, Sra, Or, And, Fence, FenceI, Ecall, Ebreak, Csrrw, Csrrs, Csrrc, Csrrwi, Csrrsi, Csrrci, Sret, Mret, Wfi, SfenceVma, Vmenter}
use Rattle.hv_isa.specs.Table.{decode_of, row_of}
use Rattle.hv_lex.specs.declared.Token.{Token}
use Rattle.hv_lex.specs.declared.Kind.TheVariants.{Number}
use Rattle.hv_asm.specs.Amounts.{amount_of, within, within_signed, word_of}
use Rattle.hv_asm.specs.Forms.{UsesRegisters, form_of, immediate_of, ranged, word_with}
use Rattle.hv_word.specs.Words.{signed_of}
use Rattle.hv_asm.specs.Meaning.{IsSingle, IsInstruction, IsNumber, IsOperand}
use Rattle.hv_asm.specs.Roles.{Role, Rd, Rs1, Rs2, Immediate, Upper, Based, Target, Control, Small, plain, rest_of, roles_of}
use Rattle.hv_asm.specs.Rows.{bare_word, branch_word, csr, csr_number_word, csr_register_word, form_word, immediate_word, jump_word, load_word, number, plain_jump_word, register, register_at, registers_word, row_word, small, source_word, sources_word, store_word, target, upper_word, zero_word}
use Rattle.hv_asm.specs.Words.{bare_short, csr_read_word, csr_write_word, move_word}
use Rattle.hv_asm.specs.declared.AsmKind.{AsmKind}
use Rattle.hv_asm.specs.declared.amounts.Amount.{Amount}
use Rattle.hv_asm.specs.declared.amounts.Amount.TheVariants.{Plus}
use Rattle.hv_asm.specs.declared.forms.Form.{Form}
use Rattle.hv_asm.specs.declared.forms.Form.TheVariants as form
use Rattle.hv_asm.specs.declared.labels.Place.{Place}
use Rattle.hv_asm.specs.declared.operands.Operand.{Operand}
use Rattle.hv_asm.specs.declared.operands.Operand.TheVariants as operand
use Rattle.hv_asm.proofs.Decoded.{decoded, plain_number, signed_number, signed_small}
use Rattle.hv_asm.proofs.Extent.{then_ok}
use Rattle.hv_asm.proofs.Fields.{AreTokens, addresses, based_field, csr_field, number_field, register_field, register_is, register_small, target_field}
use Rattle.hv_asm.proofs.Fitting.{below, ranged_ok}
use Rattle.hv_asm.proofs.Written.{instr}

abbrev Word : Type 0
Word = Result ℕ AsmKind

zip_cons : {A B C : Type 0} (R : A → C → Type 0) (Q : B → C → Type 0) (a : A) (b : B) (xs : List A) (ys : List B) → ((c : C) → R a c → Q b c) → ((cs : List C) → AllZip R xs cs → AllZip Q ys cs) → (cs : List C) → AllZip R (a ∷ xs) cs → AllZip Q (b ∷ ys) cs
zip_cons R Q a b xs ys f rest [] z = z
zip_cons R Q a b xs ys f rest (c ∷ cs) z = (f c z.0, rest cs z.1)

zip_nil : {A B C : Type 0} (R : A → C → Type 0) (Q : B → C → Type 0) (cs : List C) → AllZip R [] cs → AllZip Q [] cs
zip_nil R Q [] z = z
zip_nil R Q (c ∷ cs) z = z

-- without an immediate
plain_is : (op : Op) (rs1 imm : ℕ) → (let r : Word = Ok 0 in r) ≡ Ok imm → instr op 0 rs1 0 imm ≡ instr op 0 rs1 0 0
plain_is op rs1 imm is = let e : imm ≡ 0 = cc in ap (instr op 0 rs1 0) e

-- the immediate zero
zero_is : (imm : ℕ) → ranged true 0 ≡ Ok imm → (let r : Word = Ok 0 in r) ≡ Ok imm
zero_is imm is = is

-- the two fences
fence_decodes : decode_of 0x0FF0000F ≡ Some (rest_of Fence)
unfolding decode_of
fence_decodes = refl

fence_i_decodes : decode_of 0x0000100F ≡ Some (rest_of FenceI)
unfolding decode_of
fence_i_decodes = refl

module _ (find : List ℕ → Option Place) (at : ℕ) (line : List ℕ) (groups : List (List Token)) where
  abbrev Means : List Role → Instr → ℕ → Type 0
  Means roles rest w = IsInstruction (addresses find) at line roles rest groups (w ∷ [])

  abbrev Given : List Operand → Type 0
  Given operands = AllZip AreTokens operands groups

  abbrev Has : Instr → Role → List Token → Type 0
  Has i role tokens = IsOperand (addresses find) at line i role tokens

  one_field : (i : Instr) (a : Operand) (x : Role) → ((g : List Token) → AreTokens a g → Has i x g) → Given (a ∷ []) → AllZip (Has i) (x ∷ []) groups
  one_field i a x f z = zip_cons AreTokens (Has i) a x [] [] f (zip_nil AreTokens (Has i)) groups z

  two_fields : (i : Instr) (a b : Operand) (x y : Role) → ((g : List Token) → AreTokens a g → Has i x g) → ((g : List Token) → AreTokens b g → Has i y g) → Given (a ∷ b ∷ []) → AllZip (Has i) (x ∷ y ∷ []) groups
  two_fields i a b x y f g z =
      zip_cons AreTokens (Has i) a x (b ∷ []) (y ∷ []) f (zip_cons AreTokens (Has i) b y [] [] g (zip_nil AreTokens (Has i))) groups z

  three_fields : (i : Instr) (a b c : Operand) (x y v : Role) → ((g : List Token) → AreTokens a g → Has i x g) → ((g : List Token) → AreTokens b g → Has i y g) → ((g : List Token) → AreTokens c g → Has i v g) → Given (a ∷ b ∷ c ∷ []) → AllZip (Has i) (x ∷ y ∷ v ∷ []) groups
  three_fields i a b c x y v f g h z =
      zip_cons AreTokens (Has i) a x (b ∷ c ∷ []) (y ∷ v ∷ []) f
      (zip_cons AreTokens (Has i) b y (c ∷ []) (v ∷ []) g (zip_cons AreTokens (Has i) c v [] [] h (zip_nil AreTokens (Has i)))) groups z

  number_alone : (o : Operand) (a : Amount) (v : ℤ) (g : List Token) → AreTokens o g → number o ≡ Ok a → ((z : ℤ) → a ≡ amount_of z → z ≡ v) → IsSingle (λ t. IsNumber t v) g
  number_alone o a v g are is same = turned g (number_field line o a (λ z. z ≡ v) g are is same)
    where
      turned : (g : List Token) → IsSingle (λ t. (z : ℤ) × IsNumber t z × (z ≡ v)) g → IsSingle (λ t. IsNumber t v) g
      turned [] h = h
      turned (t ∷ []) h = h.1 ∙ ap Number h.2
      turned (t ∷ s ∷ ss) h = h

  signed_field : (o : Operand) (a : Amount) (imm : ℕ) (g : List Token) → number o ≡ Ok a → ranged (within_signed 2048 a) (word_of a) ≡ Ok imm → AreTokens o g → IsSingle (λ t. IsNumber t (signed_of imm)) g
  signed_field o a imm g is inside are =
      let r = ranged_ok _ _ _ inside in
      number_alone o a (signed_of imm) g are is (λ z e. signed_number z 2048 imm (lit≤ tt) (ap (within_signed 2048) (sym e) ∙ r.0) (ap word_of (sym e) ∙ r.1))

  plain_field : (o : Operand) (a : Amount) (v : ℕ) (g : List Token) → number o ≡ Ok a → ranged (within 32 a) (word_of a) ≡ Ok v → AreTokens o g → IsSingle (λ t. IsNumber t (pos v)) g
  plain_field o a v g is inside are =
      let r = ranged_ok _ _ _ inside in
      number_alone o a (pos v) g are is (λ z e. (plain_number z 32 v (lit≤ tt) (ap (within 32) (sym e) ∙ r.0) (ap word_of (sym e) ∙ r.1)).0)

  shift_field : (o : Operand) (a : Amount) (v : ℕ) (g : List Token) → number o ≡ Ok a → ranged (within 32 a) (word_of a) ≡ Ok v → AreTokens o g → IsSingle (λ t. IsNumber t (signed_of v)) g
  shift_field o a v g is inside are =
      let r = ranged_ok _ _ _ inside in
      number_alone o a (signed_of v) g are is
      (λ z e. let n = plain_number z 32 v (lit≤ tt) (ap (within 32) (sym e) ∙ r.0) (ap word_of (sym e) ∙ r.1) in signed_small z v (omega (arith, n.1)) n.0)

  upper_field : (o : Operand) (a : Amount) (imm : ℕ) (g : List Token) → number o ≡ Ok a → ranged (within 1048576 a) (word_of a * 4096) ≡ Ok imm → AreTokens o g → IsSingle (λ t. (n : ℕ) × IsNumber t (pos n) × (n < 2 ^ 20) × (imm ≡ n * 2 ^ 12)) g
  upper_field o a imm g is inside are =
      let r = ranged_ok _ _ _ inside in
      turned g (number_field line o a (λ z. (z ≡ pos (word_of a)) × (word_of a < 1048576)) g are is
      (λ z e. plain_number z 1048576 (word_of a) (lit≤ tt) (ap (within 1048576) (sym e) ∙ r.0) (ap word_of (sym e)))) r.1
    where
      turned : (g : List Token) → IsSingle (λ t. (z : ℤ) × IsNumber t z × ((z ≡ pos (word_of a)) × (word_of a < 1048576))) g → word_of a * 4096 ≡ imm → IsSingle (λ t. (n : ℕ) × IsNumber t (pos n) × (n < 2 ^ 20) × (imm ≡ n * 2 ^ 12)) g
      turned [] h e = h
      turned (t ∷ []) h e = (word_of a, h.1 ∙ ap Number h.2.0, h.2.1, sym e)
      turned (t ∷ s ∷ ss) h e = h

  small_below : (a : Amount) (n : ℕ) → small a ≡ Ok n → n < 32
  unfolding small
  small_below a n is = let r = ranged_ok _ _ _ is in subst (λ n. n < 32) r.1 (below 32 a (lit< tt) (lit≤ tt) r.0)

  pub registers_mean : (op : Op) (os : List Operand) (w : ℕ) → form_of (row_of op) ≡ form.Registers → Given os → registers_word line op os ≡ Ok w → Means (Rd ∷ Rs1 ∷ Rs2 ∷ []) (plain op) w
  unfolding registers_word immediate_of
  registers_mean op (a ∷ b ∷ c ∷ []) w is z e =
      let p = then_ok (register line a) _ w e in
      let q = then_ok (register line b) _ w p.2 in
      let r = then_ok (register line c) _ w q.2 in
      let d = decoded op form.Registers p.0 q.0 r.0 w (Plus 0) is (register_small line a p.0 p.1, register_small line b q.0 q.1, register_small line c r.0 r.1) r.2 in
      let i = instr op p.0 q.0 r.0 d.0 in
      record {
        word = w;
        instr = i;
        alone = refl;
        decodes = d.2;
        fields = three_fields i a b c Rd Rs1 Rs2 (λ g t. register_field line a p.0 g t p.1) (λ g t. register_field line b q.0 g t q.1) (λ g t. register_field line c r.0 g t r.1) z;
        others = plain_is op 0 d.0 d.1;
      }
  registers_mean op _ w is z e = cc

  pub immediate_means : (op : Op) (os : List Operand) (w : ℕ) → form_of (row_of op) ≡ form.Immediate → Given os → immediate_word line op os ≡ Ok w → Means (Rd ∷ Rs1 ∷ Immediate ∷ []) (plain op) w
  unfolding immediate_word immediate_of
  immediate_means op (a ∷ b ∷ c ∷ []) w is z e =
      let p = then_ok (register line a) _ w e in
      let q = then_ok (register line b) _ w p.2 in
      let n = then_ok (number c) _ w q.2 in
      let d = decoded op form.Immediate p.0 q.0 0 w n.0 is (register_small line a p.0 p.1, register_small line b q.0 q.1, refl) n.2 in
      let i = instr op p.0 q.0 0 d.0 in
      record {
        word = w;
        instr = i;
        alone = refl;
        decodes = d.2;
        fields = three_fields i a b c Rd Rs1 Immediate (λ g t. register_field line a p.0 g t p.1) (λ g t. register_field line b q.0 g t q.1) (λ g t. signed_field c n.0 d.0 g n.1 d.1 t) z;
        others = refl {a = plain op};
      }
  immediate_means op _ w is z e = cc

  pub shift_means : (op : Op) (os : List Operand) (w : ℕ) → form_of (row_of op) ≡ form.ShiftAmount → Given os → immediate_word line op os ≡ Ok w → Means (Rd ∷ Rs1 ∷ Immediate ∷ []) (plain op) w
  unfolding immediate_word immediate_of
  shift_means op (a ∷ b ∷ c ∷ []) w is z e =
      let p = then_ok (register line a) _ w e in
      let q = then_ok (register line b) _ w p.2 in
      let n = then_ok (number c) _ w q.2 in
      let d = decoded op form.ShiftAmount p.0 q.0 0 w n.0 is (register_small line a p.0 p.1, register_small line b q.0 q.1, refl) n.2 in
      let i = instr op p.0 q.0 0 d.0 in
      record {
        word = w;
        instr = i;
        alone = refl;
        decodes = d.2;
        fields = three_fields i a b c Rd Rs1 Immediate (λ g t. register_field line a p.0 g t p.1) (λ g t. register_field line b q.0 g t q.1) (λ g t. shift_field c n.0 d.0 g n.1 d.1 t) z;
        others = refl {a = plain op};
      }
  shift_means op _ w is z e = cc

  pub load_means : (op : Op) (os : List Operand) (w : ℕ) → form_of (row_of op) ≡ form.Load → Given os → load_word line op os ≡ Ok w → Means (Rd ∷ Based ∷ []) (plain op) w
  unfolding load_word immediate_of
  load_means op (a ∷ operand.Based b t ∷ []) w is z e =
      let p = then_ok (register line a) _ w e in
      let q = then_ok (register_at line t) _ w p.2 in
      let d = decoded op form.Load p.0 q.0 0 w b is (register_small line a p.0 p.1, (register_is line t q.0 q.1).1, refl) q.2 in
      let i = instr op p.0 q.0 0 d.0 in
      record {
        word = w;
        instr = i;
        alone = refl;
        decodes = d.2;
        fields = two_fields i a (operand.Based b t) Rd Based (λ g t. register_field line a p.0 g t p.1) (λ g are. based_field line b t d.0 q.0 g are q.1 d.1) z;
        others = refl {a = plain op};
      }
  load_means op _ w is z e = cc

  pub store_means : (op : Op) (os : List Operand) (w : ℕ) → form_of (row_of op) ≡ form.Store → Given os → store_word line op os ≡ Ok w → Means (Rs2 ∷ Based ∷ []) (plain op) w
  unfolding store_word immediate_of
  store_means op (a ∷ operand.Based b t ∷ []) w is z e =
      let p = then_ok (register line a) _ w e in
      let q = then_ok (register_at line t) _ w p.2 in
      let d = decoded op form.Store 0 q.0 p.0 w b is (refl, (register_is line t q.0 q.1).1, register_small line a p.0 p.1) q.2 in
      let i = instr op 0 q.0 p.0 d.0 in
      record {
        word = w;
        instr = i;
        alone = refl;
        decodes = d.2;
        fields = two_fields i a (operand.Based b t) Rs2 Based (λ g t. register_field line a p.0 g t p.1) (λ g are. based_field line b t d.0 q.0 g are q.1 d.1) z;
        others = refl {a = plain op};
      }
  store_means op _ w is z e = cc

  pub branch_means : (op : Op) (os : List Operand) (w : ℕ) → form_of (row_of op) ≡ form.Branch → Given os → branch_word find at line op os ≡ Ok w → Means (Rs1 ∷ Rs2 ∷ Target ∷ []) (plain op) w
  unfolding branch_word immediate_of
  branch_means op (a ∷ b ∷ c ∷ []) w is z e =
      let p = then_ok (register line a) _ w e in
      let q = then_ok (register line b) _ w p.2 in
      let r = then_ok (target find at line c) _ w q.2 in
      let d = decoded op form.Branch 0 p.0 q.0 w r.0 is (refl, register_small line a p.0 p.1, register_small line b q.0 q.1) r.2 in
      let i = instr op 0 p.0 q.0 d.0 in
      record {
        word = w;
        instr = i;
        alone = refl;
        decodes = d.2;
        fields = three_fields i a b c Rs1 Rs2 Target (λ g t. register_field line a p.0 g t p.1) (λ g t. register_field line b q.0 g t q.1) (λ g t. target_field find line at c r.0 4096 d.0 g t r.1 (lit≤ tt) d.1) z;
        others = refl {a = plain op};
      }
  branch_means op _ w is z e = cc

  pub zero_means : (op : Op) (os : List Operand) (w : ℕ) → form_of (row_of op) ≡ form.Branch → Given os → zero_word find at line op os ≡ Ok w → Means (Rs1 ∷ Target ∷ []) (plain op) w
  unfolding zero_word immediate_of
  zero_means op (a ∷ c ∷ []) w is z e =
      let p = then_ok (register line a) _ w e in
      let r = then_ok (target find at line c) _ w p.2 in
      let d = decoded op form.Branch 0 p.0 0 w r.0 is (refl, register_small line a p.0 p.1, lit< tt) r.2 in
      let i = instr op 0 p.0 0 d.0 in
      record {
        word = w;
        instr = i;
        alone = refl;
        decodes = d.2;
        fields = two_fields i a c Rs1 Target (λ g t. register_field line a p.0 g t p.1) (λ g t. target_field find line at c r.0 4096 d.0 g t r.1 (lit≤ tt) d.1) z;
        others = refl {a = plain op};
      }
  zero_means op _ w is z e = cc

  pub jump_means : (os : List Operand) (w : ℕ) → Given os → jump_word find at line os ≡ Ok w → Means (Rd ∷ Target ∷ []) (plain Jal) w
  unfolding jump_word immediate_of
  jump_means (a ∷ c ∷ []) w z e =
      let p = then_ok (register line a) _ w e in
      let r = then_ok (target find at line c) _ w p.2 in
      let d = decoded Jal form.Jump p.0 0 0 w r.0 refl (register_small line a p.0 p.1, refl, refl) r.2 in
      let i = instr Jal p.0 0 0 d.0 in
      record {
        word = w;
        instr = i;
        alone = refl;
        decodes = d.2;
        fields = two_fields i a c Rd Target (λ g t. register_field line a p.0 g t p.1) (λ g t. target_field find line at c r.0 1048576 d.0 g t r.1 (lit≤ tt) d.1) z;
        others = refl {a = plain Jal};
      }
  jump_means _ w z e = cc

  pub plain_jump_means : (os : List Operand) (w : ℕ) → Given os → plain_jump_word find at line os ≡ Ok w → Means (Target ∷ []) (plain Jal) w
  unfolding plain_jump_word immediate_of
  plain_jump_means (c ∷ []) w z e =
      let r = then_ok (target find at line c) _ w e in
      let d = decoded Jal form.Jump 0 0 0 w r.0 refl (lit< tt, refl, refl) r.2 in
      let i = instr Jal 0 0 0 d.0 in
      record {
        word = w;
        instr = i;
        alone = refl;
        decodes = d.2;
        fields = one_field i c Target (λ g t. target_field find line at c r.0 1048576 d.0 g t r.1 (lit≤ tt) d.1) z;
        others = refl {a = plain Jal};
      }
  plain_jump_means _ w z e = cc

  pub upper_means : (op : Op) (os : List Operand) (w : ℕ) → form_of (row_of op) ≡ form.Upper → Given os → upper_word line op os ≡ Ok w → Means (Rd ∷ Upper ∷ []) (plain op) w
  unfolding upper_word immediate_of
  upper_means op (a ∷ c ∷ []) w is z e =
      let p = then_ok (register line a) _ w e in
      let n = then_ok (number c) _ w p.2 in
      let d = decoded op form.Upper p.0 0 0 w n.0 is (register_small line a p.0 p.1, refl, refl) n.2 in
      let i = instr op p.0 0 0 d.0 in
      record {
        word = w;
        instr = i;
        alone = refl;
        decodes = d.2;
        fields = two_fields i a c Rd Upper (λ g t. register_field line a p.0 g t p.1) (λ g t. upper_field c n.0 d.0 g n.1 d.1 t) z;
        others = refl {a = plain op};
      }
  upper_means op _ w is z e = cc

  pub csr_register_means : (op : Op) (os : List Operand) (w : ℕ) → form_of (row_of op) ≡ form.CsrRegister → Given os → csr_register_word line op os ≡ Ok w → Means (Rd ∷ Control ∷ Rs1 ∷ []) (plain op) w
  unfolding csr_register_word immediate_of
  csr_register_means op (a ∷ b ∷ c ∷ []) w is z e =
      let p = then_ok (register line a) _ w e in
      let n = then_ok (csr line b) _ w p.2 in
      let q = then_ok (register line c) _ w n.2 in
      let d = decoded op form.CsrRegister p.0 q.0 0 w n.0 is (register_small line a p.0 p.1, register_small line c q.0 q.1, refl) q.2 in
      let i = instr op p.0 q.0 0 d.0 in
      record {
        word = w;
        instr = i;
        alone = refl;
        decodes = d.2;
        fields = three_fields i a b c Rd Control Rs1 (λ g t. register_field line a p.0 g t p.1) (λ g t. csr_field line b n.0 d.0 g t n.1 d.1) (λ g t. register_field line c q.0 g t q.1) z;
        others = refl {a = plain op};
      }
  csr_register_means op _ w is z e = cc

  pub csr_number_means : (op : Op) (os : List Operand) (w : ℕ) → form_of (row_of op) ≡ form.CsrNumber → Given os → csr_number_word line op os ≡ Ok w → Means (Rd ∷ Control ∷ Small ∷ []) (plain op) w
  unfolding csr_number_word small immediate_of
  csr_number_means op (a ∷ b ∷ c ∷ []) w is z e =
      let p = then_ok (register line a) _ w e in
      let n = then_ok (csr line b) _ w p.2 in
      let m = then_ok (number c) _ w n.2 in
      let q = then_ok (small m.0) _ w m.2 in
      let d = decoded op form.CsrNumber p.0 q.0 0 w n.0 is (register_small line a p.0 p.1, small_below m.0 q.0 q.1, refl) q.2 in
      let i = instr op p.0 q.0 0 d.0 in
      record {
        word = w;
        instr = i;
        alone = refl;
        decodes = d.2;
        fields = three_fields i a b c Rd Control Small (λ g t. register_field line a p.0 g t p.1) (λ g t. csr_field line b n.0 d.0 g t n.1 d.1) (λ g t. plain_field c m.0 q.0 g m.1 q.1 t) z;
        others = refl {a = plain op};
      }
  csr_number_means op _ w is z e = cc

  pub sources_mean : (op : Op) (os : List Operand) (w : ℕ) → form_of (row_of op) ≡ form.Sources → Given os → sources_word line op os ≡ Ok w → Means (Rs1 ∷ Rs2 ∷ []) (plain op) w
  unfolding sources_word immediate_of
  sources_mean op (a ∷ b ∷ []) w is z e =
      let p = then_ok (register line a) _ w e in
      let q = then_ok (register line b) _ w p.2 in
      let d = decoded op form.Sources 0 p.0 q.0 w (Plus 0) is (refl, register_small line a p.0 p.1, register_small line b q.0 q.1) q.2 in
      let i = instr op 0 p.0 q.0 d.0 in
      record {
        word = w;
        instr = i;
        alone = refl;
        decodes = d.2;
        fields = two_fields i a b Rs1 Rs2 (λ g t. register_field line a p.0 g t p.1) (λ g t. register_field line b q.0 g t q.1) z;
        others = plain_is op 0 d.0 d.1;
      }
  sources_mean op _ w is z e = cc

  pub source_means : (op : Op) (os : List Operand) (w : ℕ) → form_of (row_of op) ≡ form.Source → Given os → source_word line op os ≡ Ok w → Means (Rs1 ∷ []) (plain op) w
  unfolding source_word immediate_of
  source_means op (a ∷ []) w is z e =
      let p = then_ok (register line a) _ w e in
      let d = decoded op form.Source 0 p.0 0 w (Plus 0) is (refl, register_small line a p.0 p.1, refl) p.2 in
      let i = instr op 0 p.0 0 d.0 in
      record {
        word = w;
        instr = i;
        alone = refl;
        decodes = d.2;
        fields = one_field i a Rs1 (λ g t. register_field line a p.0 g t p.1) z;
        others = plain_is op 0 d.0 d.1;
      }
  source_means op _ w is z e = cc

  pub move_means : (os : List Operand) (w : ℕ) → Given os → move_word line os ≡ Ok w → Means (Rd ∷ Rs1 ∷ []) (plain Addi) w
  unfolding move_word immediate_of
  move_means (a ∷ b ∷ []) w z e =
      let p = then_ok (register line a) _ w e in
      let q = then_ok (register line b) _ w p.2 in
      let d = decoded Addi form.Immediate p.0 q.0 0 w (Plus 0) refl (register_small line a p.0 p.1, register_small line b q.0 q.1, refl) q.2 in
      let i = instr Addi p.0 q.0 0 d.0 in
      record {
        word = w;
        instr = i;
        alone = refl;
        decodes = d.2;
        fields = two_fields i a b Rd Rs1 (λ g t. register_field line a p.0 g t p.1) (λ g t. register_field line b q.0 g t q.1) z;
        others = plain_is Addi 0 d.0 (zero_is d.0 d.1);
      }
  move_means _ w z e = cc

  pub csr_read_means : (os : List Operand) (w : ℕ) → Given os → csr_read_word line os ≡ Ok w → Means (Rd ∷ Control ∷ []) (plain Csrrs) w
  unfolding csr_read_word immediate_of
  csr_read_means (a ∷ b ∷ []) w z e =
      let p = then_ok (register line a) _ w e in
      let n = then_ok (csr line b) _ w p.2 in
      let d = decoded Csrrs form.CsrRegister p.0 0 0 w n.0 refl (register_small line a p.0 p.1, lit< tt, refl) n.2 in
      let i = instr Csrrs p.0 0 0 d.0 in
      record {
        word = w;
        instr = i;
        alone = refl;
        decodes = d.2;
        fields = two_fields i a b Rd Control (λ g t. register_field line a p.0 g t p.1) (λ g t. csr_field line b n.0 d.0 g t n.1 d.1) z;
        others = refl {a = plain Csrrs};
      }
  csr_read_means _ w z e = cc

  pub csr_write_means : (os : List Operand) (w : ℕ) → Given os → csr_write_word line os ≡ Ok w → Means (Control ∷ Rs1 ∷ []) (plain Csrrw) w
  unfolding csr_write_word immediate_of
  csr_write_means (b ∷ c ∷ []) w z e =
      let n = then_ok (csr line b) _ w e in
      let q = then_ok (register line c) _ w n.2 in
      let d = decoded Csrrw form.CsrRegister 0 q.0 0 w n.0 refl (lit< tt, register_small line c q.0 q.1, refl) q.2 in
      let i = instr Csrrw 0 q.0 0 d.0 in
      record {
        word = w;
        instr = i;
        alone = refl;
        decodes = d.2;
        fields = two_fields i b c Control Rs1 (λ g t. csr_field line b n.0 d.0 g t n.1 d.1) (λ g t. register_field line c q.0 g t q.1) z;
        others = refl {a = plain Csrrw};
      }
  csr_write_means _ w z e = cc

  -- instructions and short forms without operands
  bare_short_means : (op : Op) (f : Form) (rs1 : ℕ) (os : List Operand) (w : ℕ) → form_of (row_of op) ≡ f → UsesRegisters f 0 rs1 0 → ((imm : ℕ) → immediate_of f (Plus 0) ≡ Ok imm → imm ≡ 0) → Given os → bare_short op rs1 os ≡ Ok w → Means [] (instr op 0 rs1 0 0) w
  unfolding bare_short
  bare_short_means op f rs1 [] w is regs none z e =
      let d = decoded op f 0 rs1 0 w (Plus 0) is regs e in
      record {
        word = w;
        instr = instr op 0 rs1 0 d.0;
        alone = refl;
        decodes = d.2;
        fields = zip_nil AreTokens (Has (instr op 0 rs1 0 d.0)) groups z;
        others = ap (instr op 0 rs1 0) (none d.0 d.1);
      }
  bare_short_means op f rs1 _ w is regs none z e = cc

  pub nop_means : (os : List Operand) (w : ℕ) → Given os → bare_short Addi 0 os ≡ Ok w → Means [] (plain Addi) w
  unfolding immediate_of
  nop_means os w z e = bare_short_means Addi form.Immediate 0 os w refl (lit< tt, lit< tt, refl) (λ imm is. cc) z e

  pub ret_means : (os : List Operand) (w : ℕ) → Given os → bare_short Jalr 1 os ≡ Ok w → Means [] (instr Jalr 0 1 0 0) w
  unfolding immediate_of
  ret_means os w z e = bare_short_means Jalr form.Load 1 os w refl (lit< tt, lit< tt, refl) (λ imm is. cc) z e

  whole_means : (op : Op) (w : ℕ) → form_of (row_of op) ≡ form.Bare → Given [] → word_with op 0 0 0 (Plus 0) ≡ Ok w → Means [] (plain op) w
  unfolding bare_short immediate_of
  whole_means op w is z e = bare_short_means op form.Bare 0 [] w is (refl, refl, refl) (λ imm is. cc) z e

  fence_means : (rest : Instr) (v w : ℕ) → decode_of v ≡ Some rest → Given [] → (let r : Word = Ok v in r) ≡ Ok w → Means [] rest w
  fence_means rest v w is z e = let same : v ≡ w = cc in record {
    word = w;
    instr = rest;
    alone = refl;
    decodes = ap decode_of (sym same) ∙ is;
    fields = zip_nil AreTokens (Has rest) groups z;
    others = refl;
  }

  -- the instructions without operands
  bare_means : (op : Op) (os : List Operand) (w : ℕ) → form_of (row_of op) ≡ form.Bare → Given os → bare_word op os ≡ Ok w → Means [] (rest_of op) w
  unfolding bare_word
  bare_means Fence [] w is z e = fence_means (rest_of Fence) 0x0FF0000F w fence_decodes z e
  bare_means FenceI [] w is z e = fence_means (rest_of FenceI) 0x0000100F w fence_i_decodes z e
  bare_means op [] w is z e = whole_means op w is z e
  bare_means Fence (x ∷ xs) w is z e = cc
  bare_means FenceI (x ∷ xs) w is z e = cc
  bare_means op (x ∷ xs) w is z e = cc

  -- each instruction
  pub row_means : (op : Op) (os : List Operand) (w : ℕ) → Given os → row_word find at line op os ≡ Ok w → Means (roles_of op) (rest_of op) w
  unfolding form_word
  row_means Lui os w z e = upper_means Lui os w refl z e
  row_means Auipc os w z e = upper_means Auipc os w refl z e
  row_means Jal os w z e = jump_means os w z e
  row_means Jalr os w z e = load_means Jalr os w refl z e
  row_means Beq os w z e = branch_means Beq os w refl z e
  row_means Bne os w z e = branch_means Bne os w refl z e
  row_means Blt os w z e = branch_means Blt os w refl z e
  row_means Bge os w z e = branch_means Bge os w refl z e
  row_means Bltu os w z e = branch_means Bltu os w refl z e
  row_means Bgeu os w z e = branch_means Bgeu os w refl z e
  row_means Lb os w z e = load_means Lb os w refl z e
  row_means Lh os w z e = load_means Lh os w refl z e
  row_means Lw os w z e = load_means Lw os w refl z e
  row_means Lbu os w z e = load_means Lbu os w refl z e
  row_means Lhu os w z e = load_means Lhu os w refl z e
  row_means Sb os w z e = store_means Sb os w refl z e
  row_means Sh os w z e = store_means Sh os w refl z e
  row_means Sw os w z e = store_means Sw os w refl z e
  row_means Addi os w z e = immediate_means Addi os w refl z e
  row_means Slti os w z e = immediate_means Slti os w refl z e
  row_means Sltiu os w z e = immediate_means Sltiu os w refl z e
  row_means Xori os w z e = immediate_means Xori os w refl z e
  row_means Ori os w z e = immediate_means Ori os w refl z e
  row_means Andi os w z e = immediate_means Andi os w refl z e
  row_means Slli os w z e = shift_means Slli os w refl z e
  row_means Srli os w z e = shift_means Srli os w refl z e
  row_means Srai os w z e = shift_means Srai os w refl z e
  row_means Add os w z e = registers_mean Add os w refl z e
  row_means Sub os w z e = registers_mean Sub os w refl z e
  row_means Sll os w z e = registers_mean Sll os w refl z e
  row_means Slt os w z e = registers_mean Slt os w refl z e
  row_means Sltu os w z e = registers_mean Sltu os w refl z e
  row_means Xor os w z e = registers_mean Xor os w refl z e
  row_means Srl os w z e = registers_mean Srl os w refl z e
  row_means Sra os w z e = registers_mean Sra os w refl z e
  row_means Or os w z e = registers_mean Or os w refl z e
  row_means And os w z e = registers_mean And os w refl z e
  row_means Fence os w z e = bare_means Fence os w refl z e
  row_means FenceI os w z e = bare_means FenceI os w refl z e
  row_means Ecall os w z e = bare_means Ecall os w refl z e
  row_means Ebreak os w z e = bare_means Ebreak os w refl z e
  row_means Csrrw os w z e = csr_register_means Csrrw os w refl z e
  row_means Csrrs os w z e = csr_register_means Csrrs os w refl z e
  row_means Csrrc os w z e = csr_register_means Csrrc os w refl z e
  row_means Csrrwi os w z e = csr_number_means Csrrwi os w refl z e
  row_means Csrrsi os w z e = csr_number_means Csrrsi os w refl z e
  row_means Csrrci os w z e = csr_number_means Csrrci os w refl z e
  row_means Sret os w z e = bare_means Sret os w refl z e
  row_means Mret os w z e = bare_means Mret os w refl z e
  row_means Wfi os w z e = bare_means Wfi os w refl z e
  row_means SfenceVma os w z e = sources_mean SfenceVma os w refl z e
  row_means Vmenter os w z e = source_means Vmenter os w refl z e
