-- Arithmetic on words, which are numbers below 2 ^ 32 (Unprivileged ISA, sections 2.4 to 2.6).
use Rattle.std.specs.Prelude.{ℕ, ◌+◌, ◌-◌, ◌*◌, ◌/◌, ◌%◌, ◌^◌, int_lt, Bool, nat_lt, if◌then◌else◌}
use Rattle.hv_word.specs.Words.{signed_of}

-- sums and differences wrap; overflow is ignored
abbrev pub sum_of : ℕ → ℕ → ℕ
sum_of a b = (a + b) % 2 ^ 32

abbrev pub difference_of : ℕ → ℕ → ℕ
difference_of a b = (a + (2 ^ 32 - b)) % 2 ^ 32

-- comparison of words as signed numbers
abbrev pub is_less_signed : ℕ → ℕ → Bool
is_less_signed a b = int_lt (signed_of a) (signed_of b)

-- 1 where a comparison holds, and else 0
abbrev pub flag_of : Bool → ℕ
flag_of b = if b then 1 else 0

-- shifts take their amount from the low five bits
abbrev pub shift_left : ℕ → ℕ → ℕ
shift_left a b = a * 2 ^ (b % 32) % 2 ^ 32

abbrev pub shift_right : ℕ → ℕ → ℕ
shift_right a b = a / 2 ^ (b % 32)

-- The arithmetic shift copies the sign bit into the bits that it frees: where that is 1, the bits that it frees become
-- ones, as the complement's become zeros.
abbrev pub shift_right_signed : ℕ → ℕ → ℕ
shift_right_signed a b =
    if nat_lt a (2 ^ 31) then shift_right a b else 2 ^ 32 - 1 - shift_right (2 ^ 32 - 1 - a) b

-- the number with bit 0 clear
abbrev pub even_of : ℕ → ℕ
even_of a = a / 2 * 2
