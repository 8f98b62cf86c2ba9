-- What words of a storage were before a step changed them, told by notes.
use Rattle.std.specs.Prelude.{◌≡◌, ℕ, Bool, true, false, not, ◌&&◌, ◌==◌, nat_lt, List, [], ◌∷◌, length, slice_index}
use Rattle.std.specs.Prelude.{slice_set}
use Rattle.std.specs.List.{list_any}
use Rattle.hv_nest.specs.declared.notes.Note.{Note}

-- the storage as it was: the noted words are put back, and of two notes of one place the earlier one counts
unfoldable pub undone : List ℕ → List Note → List ℕ
undone T [] = T
undone T (n ∷ notes) = slice_set (undone T notes) n.at n.before

-- whether a place is noted
abbrev pub is_noted : ℕ → List Note → Bool
is_noted a notes = list_any (λ (n : Note). n.at == a) notes

-- no place is noted twice
unfoldable pub AreApart : List Note → Type 0
AreApart [] = Unit {0}
AreApart (n ∷ notes) = (is_noted n.at notes ≡ false) × AreApart notes

-- no place is noted twice, and every noted word is there, and is now another
unfoldable pub is_exact : List ℕ → List Note → Bool
is_exact T [] = true
is_exact T (n ∷ notes) =
    nat_lt n.at (length T)
    && (not (n.before == slice_index T n.at) && (not (is_noted n.at notes) && is_exact T notes))
