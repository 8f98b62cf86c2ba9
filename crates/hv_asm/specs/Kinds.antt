-- The words that stand for the kinds of refusals.
use Rattle.std.specs.Prelude.{ℕ, List, codes}
use Rattle.hv_asm.specs.declared.AsmKind.{AsmKind}
use Rattle.hv_asm.specs.declared.AsmKind.TheVariants.{Byte, Syntax, Repeat, Mnemonic, Operand, Label, Range}

-- why a line of assembly is refused
abbrev pub asm_kind_text : AsmKind → List ℕ
asm_kind_text Byte = codes "byte"
asm_kind_text Syntax = codes "syntax"
asm_kind_text Repeat = codes "repeat"
asm_kind_text Mnemonic = codes "mnemonic"
asm_kind_text Operand = codes "operand"
asm_kind_text Label = codes "label"
asm_kind_text Range = codes "range"
