use Rattle.std.proofs.Common.{◌≡◌, ◌+◌, take}
use Rattle.std.proofs.Math.Seq.{sets}
use Rattle.hv_capsule.proofs.reading.put_words.Given as goal

abbrev pub invariant-loop-word : goal.invariant-loop-word
invariant-loop-word l = record { place : l.place ≡ l.at + l.word-index; written : l.store ≡ sets l.fn.store l.at (take l.word-index l.words) }
