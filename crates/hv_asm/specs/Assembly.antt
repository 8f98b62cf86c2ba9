-- The words of a text: its labels over all of its lines, and its lines one after another.
use Rattle.std.specs.Prelude.{ℕ, ◌+◌, ◌^◌, ◌&&◌, nat_lt, nat_le, List, [], ◌∷◌, ◌++◌, Bool, true, false}
use Rattle.std.specs.Prelude.{if◌then◌else◌, Option, Some, None, Result, Ok, Err}
use Rattle.std.specs.Str.{bytes_eq}
use Rattle.hv_lex.specs.Lines.{lines_of}
use Rattle.hv_asm.specs.Limits.{image_limit}
use Rattle.hv_asm.specs.Operands.{Reading, Deed, Refused, Nothing, Work, read_of, size_of}
use Rattle.hv_asm.specs.Words.{words_with}
use Rattle.hv_asm.specs.declared.AsmKind.{AsmKind}
use Rattle.hv_asm.specs.declared.AsmKind.TheVariants as fault
use Rattle.hv_asm.specs.declared.labels.Place.{Place}
use Rattle.hv_lex.specs.Refusing.{◌>>=◌}

-- the name that a line defines, if it defines one, is this
abbrev pub is_label : List ℕ → Option (List ℕ) → Bool
is_label name None = false
is_label name (Some label) = bytes_eq label name

-- the first place in these lines where a name is defined; the first of them has this number and this address
unfoldable pub place_from : (number at : ℕ) → List (List ℕ) → List ℕ → Option Place
place_from number at [] name = None
place_from number at (line ∷ lines) name =
    if is_label name (read_of line).label then Some (record { line = number; at = at })
    else place_from (number + 1) (at + size_of (read_of line).deed) lines name

-- where a name is defined in a text; lines are numbered from 1, and the first address is the base
abbrev pub place_of : (base : ℕ) → List (List ℕ) → List ℕ → Option Place
place_of base lines name = place_from 1 base lines name

-- a place is on a line before this one
abbrev pub is_before : ℕ → Option Place → Bool
is_before number None = false
is_before number (Some place) = nat_lt place.line number

-- the label of a line was defined on an earlier line
abbrev pub repeats : (List ℕ → Option Place) → ℕ → Option (List ℕ) → Bool
repeats find number None = false
repeats find number (Some label) = is_before number (find label)

-- the bytes up to here are no more than an image can have, and the last word is at most at address 2 ^ 32 - 4
abbrev pub has_room : (base end : ℕ) → Bool
has_room base end = nat_le end (base + image_limit) && nat_le end (2 ^ 32)

-- the words of an operation, if its name is one and the words have room
abbrev pub worked_words : (List ℕ → Option Place) → (base at end : ℕ) → List ℕ → Deed → Result (List ℕ) AsmKind
worked_words find base at end line (Refused kind) = Err kind
worked_words find base at end line Nothing = Ok []
worked_words find base at end line (Work None operands) = Err fault.Mnemonic
worked_words find base at end line (Work (Some operation) operands) =
    words_with find at line operation operands >>= λ words. if has_room base end then Ok words else Err fault.Range

-- a line is refused as it is read
abbrev pub is_refused : Deed → Bool
is_refused (Refused kind) = true
is_refused Nothing = false
is_refused (Work operation operands) = false

-- the words of a line, or its first fault
unfoldable pub line_words : (List ℕ → Option Place) → (base number at : ℕ) → List ℕ → Reading → Result (List ℕ) AsmKind
line_words find base number at line r =
    if is_refused r.deed then worked_words find base at (at + size_of r.deed) line r.deed
    else if repeats find number r.label then Err fault.Repeat
    else worked_words find base at (at + size_of r.deed) line r.deed

-- words in front of those of the lines behind
abbrev pub in_front : List ℕ → Result (List ℕ) (ℕ × AsmKind) → Result (List ℕ) (ℕ × AsmKind)
in_front front (Ok words) = Ok (front ++ words)
in_front front (Err end) = Err end

-- the words of a line and of those behind it, or the first refusal with the number of its line
abbrev pub and_then : ℕ → Result (List ℕ) AsmKind → Result (List ℕ) (ℕ × AsmKind) → Result (List ℕ) (ℕ × AsmKind)
and_then number (Err kind) behind = Err (number, kind)
and_then number (Ok words) behind = in_front words behind

-- the words of lines, or the number and the fault of the first that is refused
unfoldable pub words_from :
    (List ℕ → Option Place) → (base number at : ℕ) → List (List ℕ) → Result (List ℕ) (ℕ × AsmKind)
words_from find base number at [] = Ok []
words_from find base number at (line ∷ lines) =
    and_then number (line_words find base number at line (read_of line))
    (words_from find base (number + 1) (at + size_of (read_of line).deed) lines)

-- the words of a text from this base on, or the number and the fault of the first line that is refused
unfoldable pub asm_of : (text : List ℕ) → (base : ℕ) → Result (List ℕ) (ℕ × AsmKind)
asm_of text base = words_from (place_of base (lines_of text)) base 1 base (lines_of text)
