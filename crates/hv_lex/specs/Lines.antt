-- A text as its lines.
use Rattle.std.specs.Prelude.{◌≡◌, ℕ, ◌==◌, if◌then◌else◌, List, [], ◌∷◌, ◌++◌, map}
-- the lists with an item at the front of the first of them; where there is none, a list of its own
pub use Rattle.std.specs.List.{onto_first as onto}

-- A line feed, byte 10, ends each line; the last one may lack it where it isn't empty.
unfoldable pub cut_of : List ℕ → List (List ℕ)
cut_of [] = []
cut_of (c ∷ cs) = if c == 10 then [] ∷ cut_of cs else onto c (cut_of cs)

-- the line without the carriage return at its end, byte 13, if one is there
unfoldable pub returned : List ℕ → List ℕ
returned [] = []
returned (c ∷ []) = if c == 13 then [] else c ∷ []
returned (c ∷ d ∷ ds) = c ∷ returned (d ∷ ds)

-- the lines of a text
unfoldable pub lines_of : List ℕ → List (List ℕ)
lines_of text = map returned (cut_of text)

-- a text that is this line, its line feed included, whatever stands behind it
abbrev pub IsLineText : List ℕ → List ℕ → Type 0
IsLineText line text = (rest : List ℕ) → lines_of (text ++ rest) ≡ line ∷ lines_of rest
