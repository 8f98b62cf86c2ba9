use Rattle.std.proofs.Common.{◌≡◌, ℕ, ◌<◌, true, slice_index}
use Rattle.hv_line.specs.Lines.{is_word_byte}
use Rattle.hv_line.proofs.lines.letters.Given as goal

abbrev pub invariant-loop-i : goal.invariant-loop-i
invariant-loop-i l = (k : ℕ) → k < l.i → is_word_byte (slice_index l.text k) ≡ true
