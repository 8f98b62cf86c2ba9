-- The text of a row: `l` and a mask, or `s`, the pc before the step, and what it changed. Words are eight hexadecimal
-- digits in lower case, places are decimal.
use Rattle.std.specs.Prelude.{◌≡◌, ℕ, ◌^◌, ◌<◌, List, [], ◌∷◌, ◌++◌, length, take, Option, Some, None, codes}
use Rattle.std.specs.Fmt.{decimal}
use Rattle.std.specs.List.{AllByRecursion}
use Rattle.hv_text.specs.Text.{hex8}
use Rattle.hv_trace.specs.Rows.{IsInside, IsRow, IsOfWords, IsOfWordsIn}
use Rattle.hv_trace.specs.declared.row.TraceRow.{TraceRow}
use Rattle.hv_trace.specs.declared.row.TraceRow.TheVariants.{Lines, Step}

-- a number, and the colon behind it
abbrev pub number_text : ℕ → List ℕ
number_text number = decimal number ++ codes ":"

-- a place or number with what the word there became
abbrev pub pair_text : ℕ × ℕ → List ℕ
pair_text pair = number_text pair.0 ++ hex8 pair.1

-- a changed word of the registers
abbrev pub change_text : ℕ × ℕ → List ℕ
change_text change = 32 ∷ pair_text change

abbrev pub changes_text : List (ℕ × ℕ) → List ℕ
changes_text [] = []
changes_text (change ∷ changes) = change_text change ++ changes_text changes

-- the changed word of the storage, and the line feed that ends the row
abbrev pub stored_text : ℕ × ℕ → List ℕ
stored_text change = pair_text change ++ codes "\n"

-- the end of a step's row
abbrev pub tail_text : Option (ℕ × ℕ) → List ℕ
tail_text None = codes "\n"
tail_text (Some change) = codes " m " ++ stored_text change

-- a row's line
abbrev pub row_line : TraceRow → List ℕ
row_line (Lines mask) = codes "l " ++ hex8 mask ++ codes "\n"
row_line (Step pc len regs mem) = codes "s " ++ hex8 pc ++ changes_text (take len regs) ++ tail_text mem

-- the lines of rows
abbrev pub rows_text : List TraceRow → List ℕ
rows_text [] = []
rows_text (row ∷ rows) = row_line row ++ rows_text rows

-- What a reader finds at the front of a text, with what is behind it: something that P holds of and that is spelled so.
-- It finds none only where the text begins with no such thing.
abbrev pub ReadsFront : {A : Type 0} → (A → Type 0) → (A → List ℕ) → Option (A × List ℕ) → List ℕ → Type 0
ReadsFront P spelling (Some found) text = P found.0 × (text ≡ spelling found.0 ++ found.1)
ReadsFront P spelling None text = (a : _) (behind : List ℕ) → P a → text ≡ spelling a ++ behind → ⊥

-- a number of 32 bits
abbrev pub IsWord : ℕ → Type 0
IsWord n = n < 2 ^ 32

-- a change of a word of the registers
abbrev pub IsChange : ℕ × ℕ → Type 0
IsChange change = (change.0 < 50) × IsWord change.1

-- a change of a word of a storage of so many words
abbrev pub IsStored : ℕ → ℕ × ℕ → Type 0
IsStored words change = (change.0 < words) × IsOfWords change

-- the same of one that may be none
abbrev pub IsTail : ℕ → Option (ℕ × ℕ) → Type 0
IsTail words mem = IsInside words mem × IsOfWordsIn mem

-- the numbers of a row are words
abbrev pub HasWords : TraceRow → Type 0
HasWords (Lines mask) = IsWord mask
HasWords (Step pc len regs mem) = IsWord pc × (length regs ≡ 8) × AllByRecursion IsOfWords regs × IsOfWordsIn mem

-- a row of words, over a storage of so many words
abbrev pub IsWordRow : ℕ → TraceRow → Type 0
IsWordRow words row = IsRow words row × HasWords row
