-- What is read of an operand is what its tokens say.
use Rattle.std.proofs.Common.{◌≡◌, inl, inr, ℕ, ◌%◌, ◌^◌, ◌<◌, ◌≤◌, ◌&&◌, lit≤, ℤ, pos, negsuc, ◌-ℤ◌, List, [], ◌∷◌, Option, Some, None, Ok, refl, sym, ap, ◌∙◌, subst, option_map}
use Rattle.hv_isa.specs.Csrs.{csr_number_of}
use Rattle.hv_lex.specs.declared.Token.{Token}
use Rattle.hv_lex.specs.declared.Kind.{Kind}
use Rattle.hv_lex.specs.declared.Kind.TheVariants.{Name, Number, Comma, Colon, Open, Close}
use Rattle.hv_asm.specs.Amounts.{amount_of, distance, within, within_signed, is_even, word_of}
use Rattle.hv_asm.specs.Forms.{ranged}
use Rattle.hv_asm.specs.Meaning.{IsSingle, IsAddress, IsBased, IsControl, IsNumber, IsRegister, IsTarget}
use Rattle.hv_asm.specs.Names.{register_of}
use Rattle.hv_asm.specs.Operands.{based, operand_of, single, text_of}
use Rattle.hv_asm.specs.Rows.{address, csr, number, or_fault, register, register_at, target}
use Rattle.hv_asm.specs.declared.AsmKind.{AsmKind}
use Rattle.hv_asm.specs.declared.AsmKind.TheVariants as fault
use Rattle.hv_asm.specs.declared.amounts.Amount.{Amount}
use Rattle.hv_asm.specs.declared.amounts.Amount.TheVariants.{Plus}
use Rattle.hv_asm.specs.declared.labels.Place.{Place}
use Rattle.hv_asm.specs.declared.operands.Operand.{Operand}
use Rattle.hv_asm.specs.declared.operands.Operand.TheVariants as operand
use Rattle.hv_asm.proofs.Decoded.{distance_is, plain_number, register_below, signed_number}
use Rattle.hv_asm.proofs.Extent.{then_ok}
use Rattle.hv_asm.proofs.Fitting.{both, ranged_ok}

-- the tokens of a number and a name in parentheses
abbrev pub AreBased : Amount → Token → List Token → Type 0
AreBased a t (n ∷ left ∷ s ∷ right ∷ []) = ((z : ℤ) × IsNumber n z × (a ≡ amount_of z)) × (left.kind ≡ Open) × (s.kind ≡ Name) × (right.kind ≡ Close) × (s ≡ t)
AreBased a t _ = ⊥

-- the tokens of an operand
abbrev pub AreTokens : Operand → List Token → Type 0
AreTokens (operand.Name t) tokens = IsSingle (λ s. (s.kind ≡ Name) × (s ≡ t)) tokens
AreTokens (operand.Number a) tokens = IsSingle (λ s. (z : ℤ) × IsNumber s z × (a ≡ amount_of z)) tokens
AreTokens (operand.Based a t) tokens = AreBased a t tokens

single_is : (k : Kind) (t : Token) (o : Operand) → t.kind ≡ k → single k t ≡ Some o → AreTokens o (t ∷ [])
single_is Name t o kind is = let e : operand.Name t ≡ o = cc in subst (λ (o : Operand). AreTokens o (t ∷ [])) e (kind, refl)
single_is (Number z) t o kind is = let e : operand.Number (amount_of z) ≡ o = cc in subst (λ (o : Operand). AreTokens o (t ∷ [])) e (z, kind, refl)
single_is Comma t o kind is = cc
single_is Colon t o kind is = cc
single_is Open t o kind is = cc
single_is Close t o kind is = cc

based_is : (j k l m : Kind) (a b c d : Token) (o : Operand) → a.kind ≡ j → b.kind ≡ k → c.kind ≡ l → d.kind ≡ m → based j k l m c ≡ Some o → AreTokens o (a ∷ b ∷ c ∷ d ∷ [])
based_is (Number z) Open Name Close a b c d o number left name right is =
    let e : operand.Based (amount_of z) c ≡ o = cc in
    subst (λ (o : Operand). AreTokens o (a ∷ b ∷ c ∷ d ∷ [])) e ((z, number, refl), left, name, right, refl)
based_is _ _ _ _ a b c d o number left name right is = cc

pub operand_is : (tokens : List Token) (o : Operand) → operand_of tokens ≡ Some o → AreTokens o tokens
unfolding operand_of
operand_is (a ∷ []) o is = single_is a.kind a o refl is
operand_is (a ∷ b ∷ c ∷ d ∷ []) o is = based_is a.kind b.kind c.kind d.kind a b c d o refl refl refl refl is
operand_is [] o is = cc
operand_is (a ∷ b ∷ []) o is = cc
operand_is (a ∷ b ∷ c ∷ []) o is = cc
operand_is (a ∷ b ∷ c ∷ d ∷ e ∷ es) o is = cc

alone_map : (P Q : Token → Type 0) → ((t : Token) → P t → Q t) → (tokens : List Token) → IsSingle P tokens → IsSingle Q tokens
alone_map P Q f [] is = is
alone_map P Q f (t ∷ []) is = f t is
alone_map P Q f (t ∷ s ∷ ss) is = is

found_is : {A : Type 0} (kind : AsmKind) (o : Option A) (x : A) → or_fault kind o ≡ Ok x → o ≡ Some x
found_is {A} kind (Some y) x is = let e : y ≡ x = cc in ap (λ (y : A). let o : Option A = Some y in o) e
found_is kind None x is = cc

module _ (line : List ℕ) where
  pub register_is : (t : Token) (n : ℕ) → register_at line t ≡ Ok n → (register_of (text_of line t) ≡ Some n) × (n < 32)
  unfolding register_at
  register_is t n is = let e = found_is fault.Operand (register_of (text_of line t)) n is in (e, register_below (text_of line t) n e)

  pub register_field : (o : Operand) (n : ℕ) (tokens : List Token) → AreTokens o tokens → register line o ≡ Ok n → IsSingle (λ t. IsRegister line t n) tokens
  unfolding register
  register_field (operand.Name t) n tokens are is =
      alone_map (λ s. (s.kind ≡ Name) × (s ≡ t)) (λ s. IsRegister line s n)
      (λ s h. (h.0, subst (λ (t : Token). register_of (text_of line t) ≡ Some n) (sym h.1) (register_is t n is).0)) tokens are
  register_field (operand.Number a) n tokens are is = cc
  register_field (operand.Based a t) n tokens are is = cc

  pub register_small : (o : Operand) (n : ℕ) → register line o ≡ Ok n → n < 32
  unfolding register
  register_small (operand.Name t) n is = (register_is t n is).1
  register_small (operand.Number a) n is = cc
  register_small (operand.Based a t) n is = cc

  -- a number, from what holds of each number with its amount
  pub number_field : (o : Operand) (a : Amount) (P : ℤ → Type 0) (tokens : List Token) → AreTokens o tokens → number o ≡ Ok a → ((z : ℤ) → a ≡ amount_of z → P z) → IsSingle (λ t. (z : ℤ) × IsNumber t z × P z) tokens
  unfolding number
  number_field (operand.Number b) a P tokens are is holds =
      let e : b ≡ a = cc in
      alone_map (λ s. (z : ℤ) × IsNumber s z × (b ≡ amount_of z)) (λ s. (z : ℤ) × IsNumber s z × P z)
      (λ s h. (h.0, h.1, holds h.0 (sym e ∙ h.2))) tokens are
  number_field (operand.Name t) a P tokens are is holds = cc
  number_field (operand.Based b t) a P tokens are is holds = cc

  pub csr_field : (o : Operand) (a : Amount) (imm : ℕ) (tokens : List Token) → AreTokens o tokens → csr line o ≡ Ok a → ranged (within 4096 a) (word_of a) ≡ Ok imm → IsSingle (λ t. IsControl line t imm) tokens
  unfolding csr
  csr_field (operand.Name t) a imm tokens are is inside =
      let s = then_ok (or_fault fault.Operand (csr_number_of (text_of line t))) _ a is in
      let e : Plus s.0 ≡ a = cc in
      let r = ranged_ok _ _ _ inside in
      let n = plain_number (pos s.0) 4096 imm (lit≤ tt) (ap (within 4096) e ∙ r.0) (ap word_of e ∙ r.1) in
      let m : s.0 ≡ imm = ap (λ (z : ℤ). number_or z) n.0 in
      let found : csr_number_of (text_of line t) ≡ Some imm = found_is fault.Operand (csr_number_of (text_of line t)) s.0 s.1 ∙ ap Some m in
      alone_map (λ s. (s.kind ≡ Name) × (s ≡ t)) (λ s. IsControl line s imm)
      (λ s h. inl (h.0, subst (λ (t : Token). csr_number_of (text_of line t) ≡ Some imm) (sym h.1) found)) tokens are
    where
      number_or : ℤ → ℕ
      number_or (pos n) = n
      number_or (negsuc n) = n
  csr_field (operand.Number b) a imm tokens are is inside =
      let e : b ≡ a = cc in
      let r = ranged_ok _ _ _ inside in
      alone_map (λ s. (z : ℤ) × IsNumber s z × (b ≡ amount_of z)) (λ s. IsControl line s imm)
      (λ s h. inr (h.1 ∙ ap Number (plain_number h.0 4096 imm (lit≤ tt) (ap (within 4096) (sym h.2 ∙ e) ∙ r.0) (ap word_of (sym h.2 ∙ e) ∙ r.1)).0)) tokens are
  csr_field (operand.Based b t) a imm tokens are is inside = cc

  -- a number and a register in parentheses
  pub based_field : (a : Amount) (t : Token) (imm rs1 : ℕ) (tokens : List Token) → AreBased a t tokens → register_at line t ≡ Ok rs1 → ranged (within_signed 2048 a) (word_of a) ≡ Ok imm → IsBased line tokens imm rs1
  based_field a t imm rs1 (n ∷ left ∷ s ∷ right ∷ []) are is inside =
      let r = ranged_ok _ _ _ inside in
      let e = are.0.2 in
      let z = signed_number are.0.0 2048 imm (lit≤ tt) (ap (within_signed 2048) (sym e) ∙ r.0) (ap word_of (sym e) ∙ r.1) in
      (are.0.1 ∙ ap Number z, are.1, (are.2, subst (λ (t : Token). register_of (text_of line t) ≡ Some rs1) (sym are.4) (register_is t rs1 is).0), are.3)
  based_field a t imm rs1 [] are is inside = are
  based_field a t imm rs1 (n ∷ []) are is inside = are
  based_field a t imm rs1 (n ∷ l ∷ []) are is inside = are
  based_field a t imm rs1 (n ∷ l ∷ s ∷ []) are is inside = are
  based_field a t imm rs1 (n ∷ l ∷ s ∷ r ∷ x ∷ xs) are is inside = are

-- labels by their addresses
abbrev pub addresses : (List ℕ → Option Place) → List ℕ → Option ℕ
addresses find name = option_map (λ place. place.at) (find name)

module _ (find : List ℕ → Option Place) (line : List ℕ) where
  pub address_is : (t : Token) (to : ℕ) → address find line t ≡ Ok to → addresses find (text_of line t) ≡ Some to
  unfolding address
  address_is t to is =
      let s = then_ok (or_fault fault.Label (find (text_of line t))) _ to is in
      let e : s.0.at ≡ to = cc in
      ap (option_map (λ place. place.at)) (found_is fault.Label (find (text_of line t)) s.0 s.1) ∙ ap Some e

  label_field : (P : Token → Type 0) (t : Token) (tokens : List Token) → AreTokens (operand.Name t) tokens → (t.kind ≡ Name → P t) → IsSingle P tokens
  label_field P t tokens are holds =
      alone_map (λ s. (s.kind ≡ Name) × (s ≡ t)) P (λ s h. subst P (sym h.1) (holds (ap (λ (t : Token). t.kind) (sym h.1) ∙ h.0))) tokens are

  pub target_field : (at : ℕ) (o : Operand) (a : Amount) (bound imm : ℕ) (tokens : List Token) → AreTokens o tokens → target find at line o ≡ Ok a → bound ≤ 2 ^ 31 → ranged (within_signed bound a && is_even a) (word_of a) ≡ Ok imm → IsSingle (λ t. IsTarget (addresses find) at line t imm) tokens
  unfolding target
  target_field at (operand.Name t) a bound imm tokens are is low inside =
      let s = then_ok (address find line t) _ a is in
      let d : distance at s.0 ≡ a = cc in
      let r = ranged_ok _ _ _ inside in
      let b = both _ _ r.0 in
      let e : a ≡ amount_of (pos s.0 -ℤ pos at) = sym d ∙ distance_is at s.0 in
      let z = signed_number (pos s.0 -ℤ pos at) bound imm low (ap (within_signed bound) (sym e) ∙ b.0) (ap word_of (sym e) ∙ r.1) in
      label_field (λ t. IsTarget (addresses find) at line t imm) t tokens are (λ kind. inl (s.0, (kind, address_is t s.0 s.1), sym z))
  target_field at (operand.Number b) a bound imm tokens are is low inside =
      let e : b ≡ a = cc in
      let r = ranged_ok _ _ _ inside in
      let c = both _ _ r.0 in
      alone_map (λ s. (z : ℤ) × IsNumber s z × (b ≡ amount_of z)) (λ s. IsTarget (addresses find) at line s imm)
      (λ s h. inr (h.1 ∙ ap Number (signed_number h.0 bound imm low (ap (within_signed bound) (sym h.2 ∙ e) ∙ c.0) (ap word_of (sym h.2 ∙ e) ∙ r.1)))) tokens are
  target_field at (operand.Based b t) a bound imm tokens are is low inside = cc

  pub address_field : (t : Token) (to : ℕ) (tokens : List Token) → AreTokens (operand.Name t) tokens → address find line t ≡ Ok to → IsSingle (λ t. IsAddress (addresses find) line t (to % 2 ^ 32)) tokens
  address_field t to tokens are is =
      label_field (λ t. IsAddress (addresses find) line t (to % 2 ^ 32)) t tokens are (λ kind. (to, (kind, address_is t to is), refl))
