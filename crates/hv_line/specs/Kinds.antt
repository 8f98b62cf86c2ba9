-- The kinds of refusals, each as its word.
use Rattle.std.specs.Prelude.{ℕ, List, codes}
use Rattle.hv_line.specs.declared.kinds.JobKind.{JobKind}
use Rattle.hv_line.specs.declared.kinds.JobKind.TheVariants as fault

-- the word of a kind, which stands in what is printed of a refusal
unfoldable pub kind_word : JobKind → List ℕ
kind_word fault.Byte = codes "byte"
kind_word fault.Header = codes "header"
kind_word fault.Storage = codes "storage"
kind_word fault.Directive = codes "directive"
kind_word fault.Words = codes "words"
kind_word fault.Name = codes "name"
kind_word fault.Number = codes "number"
kind_word fault.Range = codes "range"
kind_word fault.Repeat = codes "repeat"
kind_word fault.Many = codes "many"
kind_word fault.Open = codes "open"
kind_word fault.Syntax = codes "syntax"
kind_word fault.Mnemonic = codes "mnemonic"
kind_word fault.Operand = codes "operand"
kind_word fault.Label = codes "label"
