-- A line of a job as its words.
use Rattle.std.specs.Prelude.{ℕ, Bool, false, not, ◌==◌, ◌&&◌, ◌||◌, nat_lt, if◌then◌else◌, List, [], ◌∷◌, length}
use Rattle.std.specs.Prelude.{Option, Some, None, codes}
use Rattle.std.specs.List.{list_all}
use Rattle.std.specs.Str.{bytes_eq}
use Rattle.hv_lex.specs.Lines.{onto}
use Rattle.hv_lex.specs.Tokens.{is_plain}
use Rattle.hv_line.specs.declared.version.JobVersion.{JobVersion}
use Rattle.hv_line.specs.declared.version.JobVersion.TheVariants.{One, Two}

-- the line has only printable bytes of ASCII and tabs
unfoldable pub is_allowed : List ℕ → Bool
is_allowed line = list_all is_plain line

-- a blank or a tab
unfoldable pub is_blank : ℕ → Bool
is_blank c = c == 32 || c == 9

-- what words are made of: neither a blank, nor a tab, nor `#`
unfoldable pub is_word_byte : ℕ → Bool
is_word_byte c = not (is_blank c || c == 35)

-- the text begins with a byte of a word
unfoldable pub begins_word : List ℕ → Bool
begins_word [] = false
begins_word (c ∷ cs) = is_word_byte c

-- the words of a line: its longest runs without blanks and tabs before the first `#`, byte 35
unfoldable pub words_of : List ℕ → List (List ℕ)
words_of [] = []
words_of (c ∷ cs) =
    if is_blank c then words_of cs
    else if c == 35 then []
    else if begins_word cs then onto c (words_of cs)
    else (c ∷ []) ∷ words_of cs

-- a line that isn't skipped
abbrev pub has_words : List ℕ → Bool
has_words line = nat_lt 0 (length (words_of line))

-- the form that a first line with these words says: they are exactly `job` and `1`, or `job` and `2`
unfoldable pub version_of : List (List ℕ) → Option JobVersion
version_of (job ∷ number ∷ []) =
    if bytes_eq job (codes "job") && bytes_eq number (codes "1") then Some One
    else if bytes_eq job (codes "job") && bytes_eq number (codes "2") then Some Two
    else None
version_of _ = None

-- the first word is this text
unfoldable pub begins_with : List ℕ → List (List ℕ) → Bool
begins_with text [] = false
begins_with text (word ∷ words) = bytes_eq word text

-- the only word is this text
unfoldable pub is_only : List ℕ → List (List ℕ) → Bool
is_only text (word ∷ []) = bytes_eq word text
is_only text _ = false
