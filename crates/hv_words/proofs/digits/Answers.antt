-- What `parse` reads as a number.
use Rattle.std.proofs.Common.{◌≡◌, ◌<◌, ◌^◌, ◌∙◌, ℕ, nat_lt, Bool, true, ◌&&◌, cond, length, Some, None, Result, Ok, Err, arith}
use Rattle.std.specs.Result.{OkIff, result_ok}
use Rattle.std.specs.Str.{all_ascii_digits}
use Rattle.std.specs.Str.Parse.{digits_value}
use Rattle.std.proofs.lemmas.Bool.Decides.{nat_tests}
use Rattle.std.proofs.lemmas.Str.Parse.{IsNumeralModel, numerals_by_value, tells_all_ascii_digits, parse_plain}
use Rattle.hv_words.proofs.digits.Goals as goal

own : IsNumeralModel (λ ds. all_ascii_digits ds ≡ true) (digits_value 10)
own = numerals_by_value _ tells_all_ascii_digits

-- by whether the digits are such, how many they are and what they spell
chosen : {E : Type 0} (r : Result ℕ E) (plain : Bool) (len value : ℕ) → OkIff r ((plain ≡ true) × (0 < len) × (value < 2 ^ 32)) value → result_ok r ≡ cond ((nat_lt 0 len && plain) && nat_lt value (2 ^ 32)) (Some value) None
chosen (Ok n) plain len value h = grind (arith, nat_tests)
chosen (Err e) plain len value h = grind (arith, nat_tests)

pub returns : goal.returns
returns c =
    let w = c.args.word.now in
    c.ok.ensures.value ∙ chosen c.parse.result (all_ascii_digits w) (length w) (digits_value 10 w) (parse_plain own 32 w _ c.parse.ensures.value.0 c.requires)
