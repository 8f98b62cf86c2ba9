use Rattle.std.proofs.Common.{◌≡◌, drop}
use Rattle.hv_line.specs.Statements.{numbers}
use Rattle.hv_line.specs.Texts.{texts}
use Rattle.hv_line.proofs.Numbering.{in_front}
use Rattle.hv_line.proofs.words.numbers.Given as goal

-- the numbers so far, and those of what is left, are those of all words
abbrev pub invariant-loop-word : goal.invariant-loop-word
invariant-loop-word l = in_front l.numbers.items (numbers (texts (drop l.word-index l.words))) ≡ numbers (texts l.words)
