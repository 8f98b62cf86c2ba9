-- Words, a line each, as the instructions that they are.
use Rattle.std.specs.Prelude.{ℕ, ◌+◌, ◌==◌, if◌then◌else◌, List, [], ◌∷◌, ◌++◌, length, Option, Some, None, codes}
use Rattle.hv_text.specs.Text.{line}
use Rattle.hv_lex.specs.Lines.{lines_of}
use Rattle.hv_lex.specs.Numbers.{number_of}
use Rattle.hv_dis.specs.Dis.{dis_of}
use Rattle.hv_top.specs.Output.{Output, Text, refusal, in_front}

-- the word of a line of exactly eight hexadecimal digits of either case
unfoldable pub word_in : List ℕ → Option ℕ
word_in digits = if length digits == 8 then number_of (codes "0x" ++ digits) else None

-- the instruction of the line of this number, and what is written for the lines behind it
abbrev pub dis_with : (number : ℕ) → Option ℕ → Output → Output
dis_with number None behind = refusal number (codes "number")
dis_with number (Some word) behind = in_front (line (dis_of word)) behind

-- the instruction of each line, of which the first has this number; the first line that is no word is refused
unfoldable pub dis_from : (number : ℕ) → List (List ℕ) → Output
dis_from number [] = Text []
dis_from number (digits ∷ lines) = dis_with number (word_in digits) (dis_from (number + 1) lines)

-- what `dis` writes for a text; no line of it is skipped
abbrev pub dis_output : List ℕ → Output
dis_output text = dis_from 1 (lines_of text)
