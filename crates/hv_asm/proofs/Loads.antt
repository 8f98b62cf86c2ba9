-- The words of the operations that make others than one instruction.
use Rattle.std.proofs.Common.{◌≡◌, ◌⊎◌, inl, inr, ℕ, suc, ◌+◌, ◌-◌, ◌*◌, ◌/◌, ◌%◌, ◌^◌, ◌<◌, ◌≤◌, nat_eq, nat_lt, lit≤, ℤ, pos, negsuc, Bool, true, false, cond, List, [], ◌∷◌, length, Option, Result, Ok, Err, refl, sym, ap, ◌∙◌, subst, arith}
use Rattle.std.specs.List.{AllZip, list_all}
use Rattle.std.proofs.lemmas.Bool.{ltb-true, leb-true, eqb-true}
use Rattle.std.proofs.lemmas.Bool.Decides.{nat_tests}
use Rattle.hv_isa.specs.declared.Op.TheVariants as op
use Rattle.hv_lex.specs.declared.Token.{Token}
use Rattle.hv_asm.specs.Amounts.{amount_of, word_of}
use Rattle.hv_asm.specs.Forms.{immediate_of, word_with}
use Rattle.hv_word.specs.Words.{signed_of}
use Rattle.hv_asm.specs.Limits.{space_limit}
use Rattle.hv_asm.specs.Meaning.{IsSingle, Contributes, IsAddress, IsLoad, IsNumber, IsRegister, IsWordValue, One, Two}
use Rattle.hv_asm.specs.Rows.{address, number, register}
use Rattle.hv_asm.specs.Words.{high_part, is_defined, is_value, la_words, li_words, low_part, pair_words, space_count, value, value_at, value_words, values_of, zeros_of}
use Rattle.hv_asm.specs.declared.AsmKind.{AsmKind}
use Rattle.hv_asm.specs.declared.AsmKind.TheVariants as fault
use Rattle.hv_asm.specs.declared.amounts.Amount.{Amount}
use Rattle.hv_asm.specs.declared.amounts.Amount.TheVariants.{Plus, Minus}
use Rattle.hv_asm.specs.declared.forms.Form.TheVariants as form
use Rattle.hv_asm.specs.declared.labels.Place.{Place}
use Rattle.hv_asm.specs.declared.names.Operation.TheVariants as does
use Rattle.hv_asm.specs.declared.operands.Operand.{Operand}
use Rattle.hv_asm.specs.declared.operands.Operand.TheVariants as operand
use Rattle.hv_asm.proofs.Decoded.{decoded, signed_number}
use Rattle.hv_asm.proofs.Extent.{both, kept, ok_is, passed, then_ok}
use Rattle.hv_asm.proofs.Fields.{AreTokens, addresses, address_field, number_field, register_field, register_small}
use Rattle.hv_asm.proofs.Fitting.{ranged_ok}

-- a number that is a word
abbrev IsWordZ : ℤ → ℕ → Type 0
IsWordZ z v = (v < 2 ^ 32) × ((z ≡ pos v) ⊎ (z ≡ signed_of v))

value_is : (z : ℤ) (v : ℕ) → value (amount_of z) ≡ Ok v → IsWordZ z v
unfolding value
value_is (pos n) v is = let r = ranged_ok _ _ _ is in let h : n < 2 ^ 32 = ltb-true n (2 ^ 32) r.0 in (omega (arith, h, r.1), inl (ap pos r.1))
value_is (negsuc n) v is =
    let r = ranged_ok _ _ _ is in
    let h : suc n ≤ 2 ^ 31 = leb-true (suc n) (2 ^ 31) r.0 in
    let w : word_of (Minus (suc n)) ≡ v = r.1 in
    (omega (arith, h, w), inr (signed_number (negsuc n) (2 ^ 31) v (lit≤ tt) r.0 r.1))

value_below : (a : Amount) (v : ℕ) → value a ≡ Ok v → v < 2 ^ 32
unfolding value
value_below (Plus n) v is = (value_is (pos n) v is).0
value_below (Minus n) v is = let r = ranged_ok _ _ _ is in let w : word_of (Minus n) ≡ v = r.1 in omega (arith, w)

-- the two halves of a word
halves : (rd v hi lo : ℕ) (first second : ℕ) (ws : List ℕ) → v < 2 ^ 32 → immediate_of form.Upper (high_part v) ≡ Ok hi → immediate_of form.Immediate (low_part v) ≡ Ok lo → (hi + lo) % 2 ^ 32 ≡ v
unfolding immediate_of high_part low_part
halves rd v hi lo first second ws small high low =
    elim (nat_lt (v % 4096) 2048) as (λ b. nat_lt (v % 4096) 2048 ≡ b → immediate_of form.Upper (Plus ((cond b (v / 4096) (v / 4096 + 1)) % 1048576)) ≡ Ok hi → immediate_of form.Immediate (cond b (Plus (v % 4096)) (Minus (4096 - v % 4096))) ≡ Ok lo → (hi + lo) % 2 ^ 32 ≡ v) [
      | true ↦ λ e high low.
          let h : v % 4096 < 2048 = ltb-true (v % 4096) 2048 e in
          let p = (ranged_ok _ _ _ high).1 in
          let q = (ranged_ok _ _ _ low).1 in
          omega (arith, small, h, p, q)
      | false ↦ λ e high low.
          let h : 2048 ≤ v % 4096 = grind (arith, nat_tests) in
          let p = (ranged_ok _ _ _ high).1 in
          let q = (ranged_ok _ _ _ low).1 in
          omega (arith, small, h, p, q)
    ] refl high low

pair_loads : (rd v : ℕ) (ws : List ℕ) → rd < 32 → v < 2 ^ 32 → pair_words rd v ≡ Ok ws → IsLoad rd v ws
unfolding pair_words
pair_loads rd v ws below small is =
    let s = then_ok (word_with op.Lui rd 0 0 (high_part v)) _ ws is in
    let t = then_ok (word_with op.Addi rd rd 0 (low_part v)) _ ws s.2 in
    let a = decoded op.Lui form.Upper rd 0 0 s.0 (high_part v) refl (below, refl, refl) s.1 in
    let b = decoded op.Addi form.Immediate rd rd 0 t.0 (low_part v) refl (below, below, refl) t.1 in
    record {
      high = a.0;
      low = b.0;
      first = s.0;
      second = t.0;
      both = sym (ok_is _ ws t.2);
      lui = a.2;
      addi = b.2;
      sum = halves rd v a.0 b.0 s.0 t.0 ws small a.1 b.1;
    }

two_is : (a b : Operand) (P Q : Token → Type 0) → ((g : List Token) → AreTokens a g → IsSingle P g) → ((g : List Token) → AreTokens b g → IsSingle Q g) → (groups : List (List Token)) → AllZip AreTokens (a ∷ b ∷ []) groups → Two P Q groups
two_is a b P Q f g [] z = z
two_is a b P Q f g (x ∷ []) z = z.1
two_is a b P Q f g (x ∷ y ∷ []) z = (f x z.0, g y z.1.0)
two_is a b P Q f g (x ∷ y ∷ v ∷ vs) z = z.1.1

one_is : (a : Operand) (P : Token → Type 0) → ((g : List Token) → AreTokens a g → IsSingle P g) → (groups : List (List Token)) → AllZip AreTokens (a ∷ []) groups → One P groups
one_is a P f [] z = z
one_is a P f (x ∷ []) z = f x z.0
one_is a P f (x ∷ y ∷ ys) z = z.1

alone_to : (P Q : Token → Type 0) → ((t : Token) → P t → Q t) → (tokens : List Token) → IsSingle P tokens → IsSingle Q tokens
alone_to P Q f [] is = is
alone_to P Q f (t ∷ []) is = f t is
alone_to P Q f (t ∷ s ∷ ss) is = is

word_field : (line : List ℕ) (o : Operand) (a : Amount) (v : ℕ) (g : List Token) → number o ≡ Ok a → value a ≡ Ok v → AreTokens o g → IsSingle (λ t. IsWordValue t v) g
word_field line o a v g is fits are =
    alone_to (λ t. (z : ℤ) × IsNumber t z × IsWordZ z v) (λ t. IsWordValue t v)
    (λ t h. (h.2.0, elim h.2.1 as (λ s. IsNumber t (pos v) ⊎ IsNumber t (signed_of v)) [ inl e ↦ inl (subst (λ (z : ℤ). IsNumber t z) e h.1) | inr e ↦ inr (subst (λ (z : ℤ). IsNumber t z) e h.1) ]))
    g (number_field line o a (λ z. IsWordZ z v) g are is (λ z e. value_is z v (ap value (sym e) ∙ fits)))

module _ (find : List ℕ → Option Place) (at : ℕ) (line : List ℕ) where
  pub li_means : (os : List Operand) (groups : List (List Token)) (ws : List ℕ) → AllZip AreTokens os groups → li_words line os ≡ Ok ws → Contributes (addresses find) at line does.Li groups ws
  unfolding li_words
  li_means (a ∷ n ∷ []) groups ws z e =
      let s = then_ok (register line a) _ ws e in
      let t = then_ok (number n) _ ws s.2 in
      let u = then_ok (value t.0) _ ws t.2 in (
        s.0,
        u.0,
        two_is a n (λ r. IsRegister line r s.0) (λ t. IsWordValue t u.0) (λ g are. register_field line a s.0 g are s.1) (λ g are. word_field line n t.0 u.0 g t.1 u.1 are) groups z,
        pair_loads s.0 u.0 ws (register_small line a s.0 s.1) (value_below t.0 u.0 u.1) u.2,
      )
  li_means _ groups ws z e = cc

  pub la_means : (os : List Operand) (groups : List (List Token)) (ws : List ℕ) → AllZip AreTokens os groups → la_words find line os ≡ Ok ws → Contributes (addresses find) at line does.La groups ws
  unfolding la_words
  la_means (a ∷ operand.Name t ∷ []) groups ws z e =
      let s = then_ok (register line a) _ ws e in
      let u = then_ok (address find line t) _ ws s.2 in (
        s.0,
        u.0 % 2 ^ 32,
        two_is a (operand.Name t) (λ r. IsRegister line r s.0) (λ t. IsAddress (addresses find) line t (u.0 % 2 ^ 32)) (λ g are. register_field line a s.0 g are s.1) (λ g are. address_field find line t u.0 g are u.1) groups z,
        pair_loads s.0 (u.0 % 2 ^ 32) ws (register_small line a s.0 s.1) (omega arith) u.2,
      )
  la_means _ groups ws z e = cc

  value_field : (o : Operand) (v : ℕ) (g : List Token) → value_at find line o ≡ Ok v → AreTokens o g → IsSingle (λ t. IsAddress (addresses find) line t v ⊎ IsWordValue t v) g
  unfolding value_at number
  value_field (operand.Name t) v g e are =
      let s = then_ok (address find line t) _ v e in
      let same : s.0 % 2 ^ 32 ≡ v = cc in
      alone_to (λ t. IsAddress (addresses find) line t (s.0 % 2 ^ 32)) (λ t. IsAddress (addresses find) line t v ⊎ IsWordValue t v)
      (λ t h. inl (subst (λ (v : ℕ). IsAddress (addresses find) line t v) same h)) g (address_field find line t s.0 g are s.1)
  value_field (operand.Number a) v g e are =
      alone_to (λ t. IsWordValue t v) (λ t. IsAddress (addresses find) line t v ⊎ IsWordValue t v) (λ t h. inr h) g (word_field line (operand.Number a) a v g refl e are)
  value_field (operand.Based a t) v g e are = cc

  values_mean : (os : List Operand) (groups : List (List Token)) (ws : List ℕ) → AllZip AreTokens os groups → values_of find line os ≡ Ok ws → AllZip (λ g v. IsSingle (λ t. IsAddress (addresses find) line t v ⊎ IsWordValue t v) g) groups ws
  unfolding values_of
  values_mean [] [] ws z e = let same : [] ≡ ws = ok_is [] ws e in subst (λ (ws : List ℕ). AllZip (λ g v. IsSingle (λ t. IsAddress (addresses find) line t v ⊎ IsWordValue t v) g) [] ws) same tt
  values_mean [] (g ∷ gs) ws z e = absurd z
  values_mean (o ∷ os) [] ws z e = absurd z
  values_mean (o ∷ os) (g ∷ gs) ws z e =
      let s = then_ok (value_at find line o) _ ws e in
      let t = then_ok (values_of find line os) _ ws s.2 in
      let same : s.0 ∷ t.0 ≡ ws = ok_is _ ws t.2 in
      subst (λ (ws : List ℕ). AllZip (λ g v. IsSingle (λ t. IsAddress (addresses find) line t v ⊎ IsWordValue t v) g) (g ∷ gs) ws) same
      (value_field o s.0 g s.1 z.0, values_mean os gs t.0 z.1 t.1)

  values_some : (os : List Operand) (ws : List ℕ) → nat_eq (length os) 0 ≡ false → values_of find line os ≡ Ok ws → 0 < length ws
  unfolding values_of
  values_some [] ws some e = cc
  values_some (o ∷ os) ws some e =
      let s = then_ok (value_at find line o) _ ws e in
      let t = then_ok (values_of find line os) _ ws s.2 in
      let same : s.0 ∷ t.0 ≡ ws = ok_is _ ws t.2 in
      subst (λ (ws : List ℕ). 0 < length ws) same (omega arith)

  tested : (b : Bool) (r : Result (List ℕ) AsmKind) (k : AsmKind) (ws : List ℕ) → cond b (Err k) r ≡ Ok ws → b ≡ false
  tested true r k ws is = cc
  tested false r k ws is = refl

  pub words_mean : (os : List Operand) (groups : List (List Token)) (ws : List ℕ) → AllZip AreTokens os groups → value_words find line os ≡ Ok ws → Contributes (addresses find) at line does.Words groups ws
  unfolding value_words
  words_mean os groups ws z e =
      let all = list_all is_value os in
      let defined = list_all (is_defined find line) os in
      let inner = cond defined (values_of find line os) (Err fault.Label) in
      let outer = cond all inner (Err fault.Operand) in
      let values = kept all inner fault.Operand ws (passed (nat_eq (length os) 0) outer fault.Operand ws e) in
      let named = kept defined (values_of find line os) fault.Label ws values.1 in
      (values_some os ws (tested (nat_eq (length os) 0) outer fault.Operand ws e) named.1, values_mean os groups ws z named.1)

  zeros_mean : (o : Operand) (a : Amount) (n : ℕ) (g : List Token) → number o ≡ Ok a → a ≡ Plus (4 * n) → AreTokens o g → IsSingle (λ t. IsNumber t (pos (4 * n))) g
  zeros_mean o a n g is amount are =
      alone_to (λ t. (z : ℤ) × IsNumber t z × (z ≡ pos (4 * n))) (λ t. IsNumber t (pos (4 * n))) (λ t h. subst (λ (z : ℤ). IsNumber t z) h.2 h.1)
      g (number_field line o a (λ z. z ≡ pos (4 * n)) g are is (λ z e. number_is z (sym e ∙ amount)))
    where
      number_is : (z : ℤ) → amount_of z ≡ Plus (4 * n) → z ≡ pos (4 * n)
      number_is (pos m) e = let same : m ≡ 4 * n = cc in ap pos same
      number_is (negsuc m) e = cc

  pub space_means : (os : List Operand) (groups : List (List Token)) (ws : List ℕ) → AllZip AreTokens os groups → zeros_of os ≡ Ok ws → Contributes (addresses find) at line does.Space groups ws
  unfolding space_count number
  space_means (operand.Number (Plus m) ∷ []) groups ws z e =
      let s = then_ok (space_count (operand.Number (Plus m) ∷ [])) _ ws e in
      let r = ranged_ok _ _ _ s.1 in
      let b = both _ _ r.0 in
      let most : m ≤ space_limit = leb-true m space_limit b.0 in
      let even : m % 4 ≡ 0 = eqb-true (m % 4) 0 b.1 in
      let n : m ≡ 4 * s.0 = omega (arith, even, r.1) in (
        s.0,
        one_is (operand.Number (Plus m)) (λ t. IsNumber t (pos (4 * s.0))) (λ g are. zeros_mean (operand.Number (Plus m)) (Plus m) s.0 g refl (ap Plus n) are) groups z,
        omega (arith, most, n),
        sym (ok_is _ ws s.2),
      )
  space_means (operand.Number (Minus m) ∷ []) groups ws z e = cc
  space_means (operand.Number (Minus m) ∷ o ∷ os) groups ws z e = cc
  space_means _ groups ws z e = cc
