use Rattle.std.proofs.Common.{◌≡◌, ℕ, ◌<◌, true, slice_index}
use Rattle.hv_line.specs.Lines.{is_blank}
use Rattle.hv_line.proofs.lines.blanks.Given as goal

abbrev pub invariant-loop-i : goal.invariant-loop-i
invariant-loop-i l = (k : ℕ) → k < l.i → is_blank (slice_index l.text k) ≡ true
