use Rattle.std.proofs.Common.{◌≡◌, ◌+◌, ◌≤◌, length}
use Rattle.hv_lex.specs.Lines.{lines_of}
use Rattle.hv_top.proofs.first.line_behind.Given as goal

-- the lines so far and those that are left are all
abbrev pub invariant-loop-rest : goal.invariant-loop-rest
invariant-loop-rest l = record {
  line : l.number + length l.rest ≤ length l.fn.text + 1;
  told : l.number + length (lines_of l.rest) ≡ length (lines_of l.fn.text) + 1;
}

abbrev pub decreases-loop-rest : goal.decreases-loop-rest
decreases-loop-rest l = length l.rest
