-- Words, which are numbers below 2 ^ 32 (Unprivileged ISA, chapter 2).
use Rattle.std.specs.Prelude.{ℕ, ◌+◌, ◌-◌, ◌*◌, ◌/◌, ◌%◌, ◌^◌, ◌<◌, ◌==◌, nat_lt, if◌then◌else◌, ℤ, pos, negsuc, Bool}
use Rattle.std.specs.Prelude.{List}
use Rattle.std.specs.List.{list_any}
use Rattle.hv_word.specs.declared.Lane.{Lane}
use Rattle.hv_word.specs.declared.Lane.TheVariants.{Byte, Half, Word}

-- the bits lo to lo + len - 1 of w
abbrev pub field_of : ℕ → ℕ → ℕ → ℕ
field_of w lo len = w / 2 ^ lo % 2 ^ len

-- w with the bits lo to lo + len - 1 replaced by the low bits of v
abbrev pub field_put : ℕ → ℕ → ℕ → ℕ → ℕ
field_put w lo len v = w / 2 ^ (lo + len) * 2 ^ (lo + len) + v % 2 ^ len * 2 ^ lo + w % 2 ^ lo

-- The number from -2 ^ (bits - 1) to 2 ^ (bits - 1) - 1 that equals v modulo 2 ^ bits, taken modulo
-- 2 ^ 32. So 2 ^ 32 - 2 ^ bits is added where the low bits of v are those of a number below 0.
abbrev pub sext_of : ℕ → ℕ → ℕ
sext_of bits v =
    if nat_lt (v % 2 ^ bits) (2 ^ (bits - 1)) then v % 2 ^ bits else v % 2 ^ bits + (2 ^ 32 - 2 ^ bits)

-- the number that a word is in two's complement
abbrev pub signed_of : ℕ → ℤ
signed_of w = if nat_lt w (2 ^ 31) then pos w else negsuc (2 ^ 32 - 1 - w)

-- whether a number is in a list
abbrev pub has : ℕ → List ℕ → Bool
has a bs = list_any (λ b. a == b) bs

-- a word has four bytes and two halves
abbrev pub IsLane : Lane → Type 0
IsLane (Byte index) = index < 4
IsLane (Half index) = index < 2
IsLane Word = Unit {0}

-- the lane of w, as a number; byte 0 and half 0 are the lowest (little-endian)
abbrev pub lane_of : ℕ → Lane → ℕ
lane_of w (Byte index) = field_of w (8 * index) 8
lane_of w (Half index) = field_of w (16 * index) 16
lane_of w Word = w

-- w with that lane replaced by the low bits of v
abbrev pub lane_with : ℕ → Lane → ℕ → ℕ
lane_with w (Byte index) v = field_put w (8 * index) 8 v
lane_with w (Half index) v = field_put w (16 * index) 16 v
lane_with w Word v = v
