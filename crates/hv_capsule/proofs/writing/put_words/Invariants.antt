use Rattle.std.proofs.Common.{◌≡◌, ◌++◌, take}
use Rattle.hv_capsule.specs.Text.{words_digits}
use Rattle.hv_capsule.proofs.writing.put_words.Given as goal

abbrev pub invariant-loop-word : goal.invariant-loop-word
invariant-loop-word l = l.out.items ≡ l.fn.out.items ++ words_digits (take l.word-index l.words)
