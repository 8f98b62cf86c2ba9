use Rattle.std.proofs.Common.{◌≡◌, ◌++◌, take}
use Rattle.hv_trace.specs.Text.{rows_text}
use Rattle.hv_trace.proofs.text_writing.put_rows.Given as goal

abbrev pub invariant-loop-row : goal.invariant-loop-row
invariant-loop-row l = l.out.items ≡ l.fn.out.items ++ rows_text (take l.row-index l.rows)
