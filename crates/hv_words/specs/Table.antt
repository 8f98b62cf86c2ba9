-- The command words: which lists of words name a command.
use Rattle.std.specs.Prelude.{ℕ, ◌^◌, Bool, true, false, ◌&&◌, ◌==◌, nat_lt, if◌then◌else◌, codes}
use Rattle.std.specs.Prelude.{List, [], ◌∷◌, length, Option, Some, None, Result, Ok, Err}
use Rattle.std.specs.Str.{all_ascii_digits, bytes_eq}
use Rattle.std.specs.Str.Parse.{digits_value}
use Rattle.hv_words.specs.declared.Command.{Command}
use Rattle.hv_words.specs.declared.Command.TheVariants.{Run, Check, Asm, Dis, Debug, Save, Gen}
use Rattle.hv_words.specs.declared.Usage.{Usage}

-- a list of words, and the command that it names
pub record Row : Type 0 where
  pub words : List (List ℕ)
  pub command : Command

-- the commands without a number
abbrev pub table : List Row
table =
    record { words = codes "run" ∷ []; command = Run false } ∷
    record { words = codes "run" ∷ codes "--plain" ∷ []; command = Run true } ∷
    record { words = codes "check" ∷ []; command = Check } ∷
    record { words = codes "asm" ∷ []; command = Asm } ∷
    record { words = codes "dis" ∷ []; command = Dis } ∷
    record { words = codes "debug" ∷ []; command = Debug } ∷
    record { words = codes "save" ∷ []; command = Save } ∷
    []

-- as many words, each the same
abbrev pub same_words : List (List ℕ) → List (List ℕ) → Bool
same_words [] [] = true
same_words [] (other ∷ others) = false
same_words (word ∷ words) [] = false
same_words (word ∷ words) (other ∷ others) = bytes_eq word other && same_words words others

-- the refusal of the words
abbrev pub usage : Usage
usage = record {}

-- more than one digit, of which the first is 0
abbrev pub has_leading_zero : List ℕ → Bool
has_leading_zero [] = false
has_leading_zero (digit ∷ []) = false
has_leading_zero (digit ∷ next ∷ digits) = digit == 48

-- the number below 2 ^ 32 that decimal digits spell, of which there is at least one
abbrev pub digits_number : List ℕ → Option ℕ
digits_number text =
    if (nat_lt 0 (length text) && all_ascii_digits text) && nat_lt (digits_value 10 text) (2 ^ 32)
    then Some (digits_value 10 text)
    else None

-- the number that a word is: `0`, or such digits without a leading zero
abbrev pub number_of : List ℕ → Option ℕ
number_of word = if has_leading_zero word then None else digits_number word

-- the command for a number, where it is one
abbrev pub generating : Option ℕ → Result Command Usage
generating (Some number) = Ok (Gen number)
generating None = Err usage

-- the one command with a number, `gen N`
abbrev pub numbered : List (List ℕ) → Result Command Usage
numbered [] = Err usage
numbered (word ∷ []) = Err usage
numbered (word ∷ number ∷ []) = if bytes_eq word (codes "gen") then generating (number_of number) else Err usage
numbered (word ∷ number ∷ further ∷ words) = Err usage

-- the command of the row that has these words, or that with a number
abbrev pub found_in : List Row → List (List ℕ) → Result Command Usage
found_in [] words = numbered words
found_in (row ∷ rows) words = if same_words words row.words then Ok row.command else found_in rows words

-- the command that these words name
abbrev pub command_of : List (List ℕ) → Result Command Usage
command_of words = found_in table words
