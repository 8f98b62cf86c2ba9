use Rattle.std.proofs.Common.{◌≡◌, ◌++◌, take}
use Rattle.hv_top.specs.Asm.{word_lines}
use Rattle.hv_top.proofs.asm.put_words.Given as goal

abbrev pub invariant-loop-word : goal.invariant-loop-word
invariant-loop-word l = l.out.items ≡ l.fn.out.items ++ word_lines (take l.word-index l.words)
