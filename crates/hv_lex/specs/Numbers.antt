-- Numbers as they are written: decimal digits, or `0x` and hexadecimal digits of either case, below 2 ^ 32.
use Rattle.std.specs.Prelude.{ℕ, ◌+◌, ◌-◌, ◌*◌, ◌^◌, ◌==◌, ◌&&◌, nat_eq, nat_lt, nat_le, if◌then◌else◌, List, [], ◌∷◌}
use Rattle.std.specs.Prelude.{length, drop, Option, Some, None, codes}
use Rattle.std.specs.List.{starts_with}
use Rattle.std.specs.Option.{option_and_then}

-- what follows the front `front` of a text, where the text begins so
abbrev pub after : List ℕ → List ℕ → Option (List ℕ)
after front text = if starts_with nat_eq text front then Some (drop (length front) text) else None

-- the value of a digit, 0 to 9, a to f or A to F
abbrev pub digit_of : ℕ → Option ℕ
digit_of c =
    if nat_le 48 c && nat_le c 57 then Some (c - 48)
    else if nat_le 97 c && nat_le c 102 then Some (c - 87)
    else if nat_le 65 c && nat_le c 70 then Some (c - 55)
    else None

-- a digit of this base
abbrev pub digit_in : ℕ → ℕ → Option ℕ
digit_in base c = option_and_then (λ d. if nat_lt d base then Some d else None) (digit_of c)

-- the number that digits of this base spell, behind digits that spell `high`
abbrev pub spelled_from : ℕ → ℕ → List ℕ → Option ℕ
spelled_from base high [] = Some high
spelled_from base high (c ∷ cs) = option_and_then (λ d. spelled_from base (high * base + d) cs) (digit_in base c)

-- a number that fits a word
abbrev pub fitting : ℕ → Option ℕ
fitting n = if nat_lt n (2 ^ 32) then Some n else None

-- the number that at least one digit of this base spells
unfoldable pub number_in : ℕ → List ℕ → Option ℕ
number_in base digits = if length digits == 0 then None else option_and_then fitting (spelled_from base 0 digits)

-- hexadecimal digits behind `0x`, or else decimal digits
abbrev pub number_after : Option (List ℕ) → List ℕ → Option ℕ
number_after (Some digits) text = number_in 16 digits
number_after None text = number_in 10 text

-- the number that a text is
unfoldable pub number_of : List ℕ → Option ℕ
number_of text = number_after (after (codes "0x") text) text
