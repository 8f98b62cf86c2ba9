-- The words of an assembly text, whose first address is 0.
use Rattle.std.specs.Prelude.{ℕ, List, Result, Ok, Err}
use Rattle.std.specs.List.{flat_map}
use Rattle.hv_text.specs.Text.{line, hex8}
use Rattle.hv_asm.specs.Assembly.{asm_of}
use Rattle.hv_asm.specs.declared.AsmKind.{AsmKind}
use Rattle.hv_asm.specs.Kinds.{asm_kind_text}
use Rattle.hv_top.specs.Output.{Output, Text, refusal}

-- each word as eight digits on a line of its own
unfoldable pub word_lines : List ℕ → List ℕ
word_lines words = flat_map (λ word. line (hex8 word)) words

-- the words of a text, or the line that is refused
abbrev pub asm_answer : Result (List ℕ) (ℕ × AsmKind) → Output
asm_answer (Ok words) = Text (word_lines words)
asm_answer (Err (number, kind)) = refusal number (asm_kind_text kind)

-- what `asm` writes for a text
abbrev pub asm_output : List ℕ → Output
asm_output text = asm_answer (asm_of text 0)
