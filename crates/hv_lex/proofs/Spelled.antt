-- Numbers as they are written are read again: decimal digits, and hexadecimal digits behind `0x`.
use Rattle.std.proofs.Common.{◌≡◌, ℕ, ◌+◌, ◌*◌, ◌^◌, ◌<◌, ◌≤◌, nat_eq, nat_lt, pos, neg_ℤ, true, false, cond, ◌&&◌, Option, Some, None, List, [], ◌∷◌, ◌++◌, refl, ap, ◌∙◌, arith, lit≤, lit<}
use Rattle.std.specs.Option.{option_and_then}
use Rattle.std.specs.Fmt.{digits, digit_glyph}
use Rattle.std.specs.Char.{digit_value}
use Rattle.std.specs.Str.Parse.{AllDigits, IsNumeral, digits_value, digits_value_after}
use Rattle.std.proofs.lemmas.Bool.{ne_eqb}
use Rattle.std.proofs.lemmas.Bool.Decides.{nat_tests}
use Rattle.std.proofs.lemmas.Fmt.{digits_is_IsNumeral, hex_one_digit}
use Rattle.hv_lex.specs.declared.Kind.TheVariants.{Number}
use Rattle.hv_lex.specs.Numbers.{digit_of, digit_in, spelled_from, fitting, number_in, number_after, number_of, after}
use Rattle.hv_lex.specs.Tokens.{is_letter, is_digit}
use Rattle.hv_lex.proofs.Numerals.{fits, number_is}
use Rattle.hv_lex.proofs.Parts.{Letters, Reads, number_reads, negative_reads}

-- a digit's value, and that it is a letter
digit_found : (c : ℕ) → digit_value c < 16 → digit_of c ≡ Some (digit_value c)
digit_found c below = grind (arith, nat_tests)

digit_is : (base c : ℕ) → base ≤ 16 → digit_value c < base → digit_in base c ≡ Some (digit_value c)
digit_is base c low below =
    ap (option_and_then (λ d. cond (nat_lt d base) (Some d) None)) (digit_found c (omega arith))
    ∙ grind (arith, nat_tests)

digit_letter : (c : ℕ) → digit_value c < 16 → is_letter c ≡ true
unfolding is_letter is_digit
digit_letter c below = grind (arith, nat_tests)

decimal_digit : (c : ℕ) → digit_value c < 10 → is_digit c ≡ true
unfolding is_digit
decimal_digit c below = grind (arith, nat_tests)

digits_letters : (base : ℕ) (cs : List ℕ) → base ≤ 16 → AllDigits base cs → Letters cs
digits_letters base [] low all = tt
digits_letters base (c ∷ cs) low all = (digit_letter c (omega (arith, all.0)), digits_letters base cs low all.1)

spelled : (base high : ℕ) (cs : List ℕ) → base ≤ 16 → AllDigits base cs → spelled_from base high cs ≡ Some (digits_value_after base high cs)
spelled base high [] low all = refl
spelled base high (c ∷ cs) low all =
    ap (option_and_then (λ d. spelled_from base (high * base + d) cs)) (digit_is base c low all.0)
    ∙ spelled base (high * base + digit_value c) cs low all.1

numeral_number : (base c n : ℕ) (cs : List ℕ) → base ≤ 16 → AllDigits base (c ∷ cs) → digits_value base (c ∷ cs) ≡ n → n < 2 ^ 32 → number_in base (c ∷ cs) ≡ Some n
numeral_number base c n cs low all is small =
    number_is base (c ∷ cs) (ne_eqb _ _ (λ e. let wrong : ⊥ = omega arith in wrong))
    ∙ ap (option_and_then fitting) (spelled base 0 (c ∷ cs) low all)
    ∙ ap fitting is ∙ fits n small

-- a decimal digit is no `x`
digit_no_x : (d : ℕ) → digit_value d < 10 → nat_eq 120 d ≡ false
digit_no_x d below = grind (arith, nat_tests)

no_front : (c : ℕ) (cs : List ℕ) → AllDigits 10 (c ∷ cs) → after (48 ∷ 120 ∷ []) (c ∷ cs) ≡ None
no_front c [] all =
    elim (nat_eq 48 c) as (λ b. cond {A = Option (List ℕ)} (b && false) (Some []) None ≡ None) [ true ↦ refl | false ↦ refl ]
no_front c (d ∷ ds) all =
    ap (λ b. cond {A = Option (List ℕ)} (nat_eq 48 c && (b && true)) (Some ds) None) (digit_no_x d all.1.0)
    ∙ elim (nat_eq 48 c) as (λ b. cond {A = Option (List ℕ)} (b && false) (Some ds) None ≡ None) [ true ↦ refl | false ↦ refl ]

pub decimal_number : (c n : ℕ) (cs : List ℕ) → AllDigits 10 (c ∷ cs) → digits_value 10 (c ∷ cs) ≡ n → n < 2 ^ 32 → number_of (c ∷ cs) ≡ Some n
unfolding number_of
decimal_number c n cs all is small =
    ap (λ o. number_after o (c ∷ cs)) (no_front c cs all) ∙ numeral_number 10 c n cs (lit≤ tt) all is small

hex_number : (c n : ℕ) (cs : List ℕ) → AllDigits 16 (c ∷ cs) → digits_value 16 (c ∷ cs) ≡ n → n < 2 ^ 32 → number_of (48 ∷ 120 ∷ c ∷ cs) ≡ Some n
unfolding number_of
hex_number c n cs all is small = numeral_number 16 c n cs (lit≤ tt) all is small

-- a number in decimal, in words of the reader
decimal_reads_from : (ds : List ℕ) (n : ℕ) → IsNumeral 10 ds → digits_value 10 ds ≡ n → n < 2 ^ 32 → Reads ds (Number (pos n))
decimal_reads_from [] n numeral is small = absurd (omega (arith, numeral.0))
decimal_reads_from (c ∷ cs) n numeral is small =
    number_reads c n cs (decimal_digit c numeral.1.0) (digits_letters 10 (c ∷ cs) (lit≤ tt) numeral.1) (decimal_number c n cs numeral.1 is small)

minus_reads_from : (ds : List ℕ) (n : ℕ) → IsNumeral 10 ds → digits_value 10 ds ≡ n → n < 2 ^ 32 → Reads (45 ∷ ds) (Number (neg_ℤ (pos n)))
minus_reads_from [] n numeral is small = absurd (omega (arith, numeral.0))
minus_reads_from (c ∷ cs) n numeral is small =
    negative_reads c n cs (decimal_digit c numeral.1.0) (digits_letters 10 (c ∷ cs) (lit≤ tt) numeral.1) (decimal_number c n cs numeral.1 is small)

zero_digit : (is_digit 48 ≡ true) × (is_letter 48 ≡ true) × (is_letter 120 ≡ true)
unfolding is_digit is_letter
zero_digit = (refl, refl, refl)

pub hex_reads_from : (ds : List ℕ) (n : ℕ) → IsNumeral 16 ds → digits_value 16 ds ≡ n → n < 2 ^ 32 → Reads (48 ∷ 120 ∷ ds) (Number (pos n))
hex_reads_from [] n numeral is small = absurd (omega (arith, numeral.0))
hex_reads_from (c ∷ cs) n numeral is small =
    number_reads 48 n (120 ∷ c ∷ cs) zero_digit.0 (zero_digit.1, (zero_digit.2, digits_letters 16 (c ∷ cs) (lit≤ tt) numeral.1)) (hex_number c n cs numeral.1 is small)

wide : (n base : ℕ) → n < 2 ^ 32 → 2 ^ 32 ≤ base ^ 64 → n < base ^ 64
wide n base small room = omega arith

pub decimal_reads : (n : ℕ) → n < 2 ^ 32 → Reads (digits 10 false n) (Number (pos n))
decimal_reads n small =
    let numeral = digits_is_IsNumeral 10 false (lit≤ tt) (lit≤ tt) n (wide n 10 small (lit≤ tt)) in
    decimal_reads_from (digits 10 false n) n numeral.0 numeral.1 small

pub minus_reads : (n : ℕ) → n < 2 ^ 32 → Reads (45 ∷ digits 10 false n) (Number (neg_ℤ (pos n)))
minus_reads n small =
    let numeral = digits_is_IsNumeral 10 false (lit≤ tt) (lit≤ tt) n (wide n 10 small (lit≤ tt)) in
    minus_reads_from (digits 10 false n) n numeral.0 numeral.1 small

pub hex_reads : (n : ℕ) → n < 2 ^ 32 → Reads (48 ∷ 120 ∷ digits 16 false n) (Number (pos n))
hex_reads n small =
    let numeral = digits_is_IsNumeral 16 false (lit≤ tt) (lit≤ tt) n (wide n 16 small (lit≤ tt)) in
    hex_reads_from (digits 16 false n) n numeral.0 numeral.1 small

pub decimal_letters : (n : ℕ) → n < 2 ^ 32 → Letters (digits 10 false n)
decimal_letters n small =
    let numeral = digits_is_IsNumeral 10 false (lit≤ tt) (lit≤ tt) n (wide n 10 small (lit≤ tt)) in
    digits_letters 10 (digits 10 false n) (lit≤ tt) numeral.0.1

-- eight hexadecimal digits
glyph_value : (d : ℕ) → d < 16 → digit_value (digit_glyph false d) ≡ d
glyph_value d below = grind (arith, nat_tests)

glyph_below : (d : ℕ) → d < 16 → digit_value (digit_glyph false d) < 16
glyph_below d below = grind (arith, nat_tests)

pub eight_read : (w a b c d e f g h : ℕ) → a < 16 → b < 16 → c < 16 → d < 16 → e < 16 → f < 16 → g < 16 → h < 16
    → ((((((a * 16 + b) * 16 + c) * 16 + d) * 16 + e) * 16 + f) * 16 + g) * 16 + h ≡ w → w < 2 ^ 32
    → Reads (48 ∷ 120 ∷ (digits 16 false a ++ digits 16 false b ++ digits 16 false c ++ digits 16 false d) ++ (digits 16 false e ++ digits 16 false f ++ digits 16 false g ++ digits 16 false h)) (Number (pos w))
eight_read w a b c d e f g h la lb lc ld le lf lg lh is small =
    rw (hex_one_digit false a la, hex_one_digit false b lb, hex_one_digit false c lc, hex_one_digit false d ld, hex_one_digit false e le, hex_one_digit false f lf, hex_one_digit false g lg, hex_one_digit false h lh)
    (hex_reads_from (digit_glyph false a ∷ digit_glyph false b ∷ digit_glyph false c ∷ digit_glyph false d ∷ digit_glyph false e ∷ digit_glyph false f ∷ digit_glyph false g ∷ digit_glyph false h ∷ []) w
    (lit< tt, (glyph_below a la, (glyph_below b lb, (glyph_below c lc, (glyph_below d ld, (glyph_below e le, (glyph_below f lf, (glyph_below g lg, (glyph_below h lh, tt)))))))))
    (rw (glyph_value a la, glyph_value b lb, glyph_value c lc, glyph_value d ld, glyph_value e le, glyph_value f lf, glyph_value g lg, glyph_value h lh) (omega arith)) small)
