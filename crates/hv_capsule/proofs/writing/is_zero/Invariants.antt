use Rattle.std.proofs.Common.{◌≡◌, drop}
use Rattle.hv_capsule.proofs.Written.{are_zero}
use Rattle.hv_capsule.proofs.writing.is_zero.Given as goal

abbrev pub invariant-loop-word : goal.invariant-loop-word
invariant-loop-word l = are_zero (drop l.word-index l.words) ≡ are_zero l.words
