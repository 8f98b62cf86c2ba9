use Rattle.std.proofs.Common.{◌≡◌, ◌+◌, ◌≤◌, ◌++◌, length}
use Rattle.hv_trace.specs.Text.{rows_text}
use Rattle.hv_trace.specs.TextLines.{AreWordRows}
use Rattle.hv_trace.proofs.text_lines.read_lines.Given as goal

abbrev pub invariant-loop-row : goal.invariant-loop-row
invariant-loop-row l = record {
  are_rows : AreWordRows l.words l.rows.items;
  parts : l.text ≡ rows_text l.rows.items ++ l.rest;
  line : l.line ≡ l.first + length l.rows.items;
  room : l.line + length l.rest ≤ l.first + length l.text;
}

abbrev pub decreases-loop-row : goal.decreases-loop-row
decreases-loop-row l = length l.rest
