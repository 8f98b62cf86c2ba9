-- Which words of a storage differ from those of another.
use Rattle.std.specs.Prelude.{ℕ, ◌==◌, if◌then◌else◌, List, [], ◌∷◌, length, slice_index}
use Rattle.std.specs.List.{range_with_len, flat_map}
use Rattle.hv_nest.specs.declared.changed.ChangedRow.{ChangedRow}

-- each place where T differs from S, with the word of T, by rising place
abbrev pub difference_at : List ℕ → List ℕ → ℕ → List ChangedRow
difference_at S T a =
    if slice_index S a == slice_index T a then [] else record { at = a; value = slice_index T a } ∷ []

-- the same of the first n places
unfoldable pub differences_to : List ℕ → List ℕ → ℕ → List ChangedRow
differences_to S T n = flat_map (difference_at S T) (range_with_len 0 n)

-- all of them
abbrev pub differences : List ℕ → List ℕ → List ChangedRow
differences S T = differences_to S T (length S)
