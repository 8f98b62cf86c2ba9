-- Sets of numbers, kept as the bits of a list of words.
use Rattle.std.specs.Prelude.{◌≡◌, ℕ, ◌/◌, ◌%◌, Bool, ◌==◌, ◌||◌, List, slice_index}
use Rattle.hv_word.specs.Words.{field_of, has}

-- whether number a is in the set: bit a % 32 of word a / 32
unfoldable pub is_marked : List ℕ → ℕ → Bool
is_marked words a = field_of (slice_index words (a / 32)) (a % 32) 1 == 1

-- the set has the numbers of the list xs, and no others
pub record SetOf (words : List ℕ) (xs : List ℕ) : Type 0 where
  pub each : (a : ℕ) → is_marked words a ≡ has a xs

-- the second set has those of the first and the numbers of the list ys, and no others
pub record Joined (before after : List ℕ) (ys : List ℕ) : Type 0 where
  pub each : (a : ℕ) → is_marked after a ≡ (is_marked before a || has a ys)
