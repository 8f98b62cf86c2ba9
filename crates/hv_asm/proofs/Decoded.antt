-- A word that is made decodes to its instruction, and its immediate is the number that was written.
use Rattle.std.proofs.Common.{◌≡◌, ℕ, zero, suc, ◌+◌, ◌-◌, ◌^◌, ◌<◌, ◌≤◌, nat_lt, lit<, ℤ, pos, negsuc, ◌-ℤ◌, true, false, cond, List, [], ◌∷◌, Option, Some, None, Result, Ok, refl, sym, ap, ◌∙◌, subst, arith, find, option_map}
use Rattle.std.specs.List.{AllByRecursion}
use Rattle.std.specs.Option.{option_or}
use Rattle.std.specs.Str.{bytes_eq}
use Rattle.std.proofs.lemmas.Bool.{ltb-true, leb-true, eqb-true}
use Rattle.std.proofs.lemmas.Bool.Decides.{nat_tests}
use Rattle.hv_isa.specs.declared.Op.{Op}
use Rattle.hv_isa.specs.Table.{decode_of, row_of, spell}
use Rattle.hv_isa.proofs.Decoding.{decode_of-row}
use Rattle.hv_asm.specs.Amounts.{amount_of, distance, within, within_signed, word_of}
use Rattle.hv_asm.specs.Forms.{form_of, immediate_of, UsesRegisters, word_with}
use Rattle.hv_word.specs.Words.{signed_of}
use Rattle.hv_asm.specs.Names.{number_in, numbered, register_of, used}
use Rattle.hv_asm.specs.declared.AsmKind.{AsmKind}
use Rattle.hv_asm.specs.declared.amounts.Amount.{Amount}
use Rattle.hv_asm.specs.declared.amounts.Amount.TheVariants.{Plus, Minus}
use Rattle.hv_asm.specs.declared.forms.Form.{Form}
use Rattle.hv_asm.proofs.Extent.{then_ok}
use Rattle.hv_asm.proofs.Fitting.{fits_row}
use Rattle.hv_asm.proofs.Written.{instr}

-- the numbers of registers
rows_below : (rows : List (ℕ × List ℕ)) (text : List ℕ) (n : ℕ) → AllByRecursion (λ row. row.0 < 32) rows → option_map (λ row. row.0) (find (λ row. bytes_eq row.1 text) rows) ≡ Some n → n < 32
rows_below [] text n all is = cc
rows_below (row ∷ rows) text n all is =
    elim (bytes_eq row.1 text) as (λ b. option_map (λ row. row.0) (cond b (Some row) (find (λ row. bytes_eq row.1 text) rows)) ≡ Some n → n < 32) [
      | true ↦ λ is. let e : row.0 ≡ n = cc in subst (λ n. n < 32) e all.0
      | false ↦ λ is. rows_below rows text n all.1 is
    ] is

numbered_below : AllByRecursion (λ row. row.0 < 32) numbered
numbered_below = (lit< tt, (lit< tt, (lit< tt, (lit< tt, (lit< tt, (lit< tt, (lit< tt, (lit< tt, (lit< tt, (lit< tt, (lit< tt, (lit< tt, (lit< tt, (lit< tt, (lit< tt, (lit< tt, (lit< tt, (lit< tt, (lit< tt, (lit< tt, (lit< tt, (lit< tt, (lit< tt, (lit< tt, (lit< tt, (lit< tt, (lit< tt, (lit< tt, (lit< tt, (lit< tt, (lit< tt, (lit< tt, tt))))))))))))))))))))))))))))))))

used_below : AllByRecursion (λ row. row.0 < 32) used
used_below = (lit< tt, (lit< tt, (lit< tt, (lit< tt, (lit< tt, (lit< tt, (lit< tt, (lit< tt, (lit< tt, (lit< tt, (lit< tt, (lit< tt, (lit< tt, (lit< tt, (lit< tt, (lit< tt, (lit< tt, (lit< tt, (lit< tt, (lit< tt, (lit< tt, (lit< tt, (lit< tt, (lit< tt, (lit< tt, (lit< tt, (lit< tt, (lit< tt, (lit< tt, (lit< tt, (lit< tt, (lit< tt, tt))))))))))))))))))))))))))))))))

either : (a b : Option ℕ) (n : ℕ) → (a ≡ Some n → n < 32) → (b ≡ Some n → n < 32) → option_or a b ≡ Some n → n < 32
either (Some m) b n first second is = first is
either None b n first second is = second is

pub register_below : (text : List ℕ) (n : ℕ) → register_of text ≡ Some n → n < 32
unfolding register_of number_in
register_below text n is =
    elim (bytes_eq text (102 ∷ 112 ∷ [])) as (λ b. cond b (Some 8) (option_or (number_in numbered text) (number_in used text)) ≡ Some n → n < 32) [
      | true ↦ λ is. let e : 8 ≡ n = cc in omega (arith, e)
      | false ↦ λ is. either (number_in numbered text) (number_in used text) n (rows_below numbered text n numbered_below) (rows_below used text n used_below) is
    ] is

-- the word decodes
nat_ok : (x y : ℕ) → (let r : Result ℕ AsmKind = Ok x in r) ≡ Ok y → x ≡ y
nat_ok x y is = cc

pub decoded : (op : Op) (f : Form) (rd rs1 rs2 w : ℕ) (a : Amount) → form_of (row_of op) ≡ f → UsesRegisters f rd rs1 rs2 → word_with op rd rs1 rs2 a ≡ Ok w → (imm : ℕ) × (immediate_of f a ≡ Ok imm) × (decode_of w ≡ Some (instr op rd rs1 rs2 imm))
unfolding word_with
decoded op f rd rs1 rs2 w a form regs is =
    let s = then_ok (immediate_of (form_of (row_of op)) a) _ w is in
    let e : spell (row_of op) (instr op rd rs1 rs2 s.0) ≡ w = nat_ok _ w s.2 in
    let fits = fits_row op rd rs1 rs2 s.0 a (row_of op) (subst (λ (f : Form). UsesRegisters f rd rs1 rs2) (sym form) regs) s.1 in
    (s.0, ap (λ (f : Form). immediate_of f a) (sym form) ∙ s.1, decode_of-row (instr op rd rs1 rs2 s.0) w (record { fits = fits; word = sym e }))

-- words as signed numbers
signed_low : (w : ℕ) → w < 2 ^ 31 → signed_of w ≡ pos w
signed_low w low = grind (arith, nat_tests)

signed_high : (w : ℕ) → 2 ^ 31 ≤ w → signed_of w ≡ negsuc (2 ^ 32 - 1 - w)
signed_high w high = grind (arith, nat_tests)

minus_is : (n imm : ℕ) → suc n + imm ≡ 2 ^ 32 → suc n ≤ 2 ^ 31 → negsuc n ≡ signed_of imm
minus_is n imm sum few =
    let e : 2 ^ 32 - 1 - imm ≡ n = omega (arith, sum) in
    sym (signed_high imm (omega (arith, sum, few)) ∙ ap negsuc e)

pub signed_number : (z : ℤ) (bound imm : ℕ) → bound ≤ 2 ^ 31 → within_signed bound (amount_of z) ≡ true → word_of (amount_of z) ≡ imm → z ≡ signed_of imm
signed_number (pos n) bound imm low inside is =
    let h : n < bound = ltb-true n bound inside in
    let e : n ≡ imm = omega (arith, h, low, is) in
    ap pos e ∙ sym (signed_low imm (omega (arith, h, low, e)))
signed_number (negsuc n) bound imm low inside is =
    let h : suc n ≤ bound = leb-true (suc n) bound inside in
    minus_is n imm (omega (arith, h, low, is)) (omega (arith, h, low))

pub plain_number : (z : ℤ) (bound v : ℕ) → bound ≤ 2 ^ 31 → within bound (amount_of z) ≡ true → word_of (amount_of z) ≡ v → (z ≡ pos v) × (v < bound)
plain_number (pos n) bound v low inside is =
    let h : n < bound = ltb-true n bound inside in
    let e : n ≡ v = omega (arith, h, low, is) in
    (ap pos e, omega (arith, h, e))
plain_number (negsuc n) bound v low inside is = let e : suc n ≡ 0 = eqb-true (suc n) 0 inside in absurd (omega (arith, e))

pub signed_small : (z : ℤ) (v : ℕ) → v < 2 ^ 31 → z ≡ pos v → z ≡ signed_of v
signed_small z v low is = is ∙ sym (signed_low v low)

-- how far it is
pub distance_is : (from to : ℕ) → distance from to ≡ amount_of (pos to -ℤ pos from)
distance_is zero to = grind (arith, nat_tests)
distance_is (suc from) to =
    elim (nat_lt to (suc from)) as (λ b. nat_lt to (suc from) ≡ b → cond b (Minus (suc from - to)) (Plus (to - suc from)) ≡ amount_of (cond b (negsuc (suc from - suc to)) (pos (to - suc from)))) [
      | true ↦ λ e. let h : to < suc from = ltb-true to (suc from) e in let n : suc from - to ≡ suc (suc from - suc to) = omega (arith, h) in ap Minus n
      | false ↦ λ e. refl
    ] refl
