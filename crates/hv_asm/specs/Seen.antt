-- A line that was read, without where it lies in memory.
use Rattle.std.specs.Prelude.{ℕ, List, length}
use Rattle.std.specs.Option.{option_map}
use Rattle.hv_asm.specs.Operands.{Reading, Deed, Refused, Nothing, Work, text_of}
use Rattle.hv_asm.specs.declared.lines.Body.{Body}
use Rattle.hv_asm.specs.declared.lines.Body.TheVariants as body
use Rattle.hv_asm.specs.declared.lines.Line.{Line}

-- what a line does, its operands as a list
abbrev pub deed_in : Body → Deed
deed_in (body.Refused kind) = Refused kind
deed_in body.Nothing = Nothing
deed_in (body.Work operation operands) = Work operation operands.items

-- the label as its name
abbrev pub reading_in : List ℕ → Line → Reading
reading_in line read = record { label = option_map (text_of line) read.label; deed = deed_in read.body }

-- how many operands a line has
abbrev pub operand_count : Body → ℕ
operand_count (body.Refused kind) = 0
operand_count body.Nothing = 0
operand_count (body.Work operation operands) = length operands.items
