-- Names of machines.
use Rattle.std.specs.Prelude.{ℕ, Bool, false, ◌==◌, ◌&&◌, ◌||◌, nat_le, nat_lt, List, [], ◌∷◌, length, Option, Some}
use Rattle.std.specs.Prelude.{None, if◌then◌else◌}
use Rattle.std.specs.List.{list_all}

-- a letter a to z
abbrev pub is_letter : ℕ → Bool
is_letter c = nat_le 97 c && nat_le c 122

-- a letter a to z, a digit or `_`
abbrev pub is_name_byte : ℕ → Bool
is_name_byte c = is_letter c || ((nat_le 48 c && nat_le c 57) || c == 95)

-- how many bytes a name can have
abbrev pub name_limit : ℕ
name_limit = 16

-- a letter, followed by letters, digits or `_`, within that limit
abbrev pub is_name : List ℕ → Bool
is_name [] = false
is_name (c ∷ cs) = is_letter c && (nat_lt (length cs) name_limit && list_all is_name_byte cs)

-- the name that a word is
unfoldable pub name_of : List ℕ → Option (List ℕ)
name_of word = if is_name word then Some word else None
