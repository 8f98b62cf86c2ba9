use Rattle.std.proofs.Common.{◌≡◌, ◌++◌, take}
use Rattle.hv_run.specs.Text.{changes_text}
use Rattle.hv_run.proofs.text.put_changes.Given as goal

abbrev pub invariant-loop-row : goal.invariant-loop-row
invariant-loop-row l = l.out.items ≡ l.fn.out.items ++ changes_text (take l.row-index l.rows)
