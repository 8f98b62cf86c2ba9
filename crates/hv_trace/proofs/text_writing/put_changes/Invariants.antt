use Rattle.std.proofs.Common.{◌≡◌, ◌++◌, take}
use Rattle.hv_trace.specs.Text.{changes_text}
use Rattle.hv_trace.proofs.text_writing.put_changes.Given as goal

abbrev pub invariant-loop-change : goal.invariant-loop-change
invariant-loop-change l = l.out.items ≡ l.fn.out.items ++ changes_text (take l.change-index l.changes)
