use Rattle.std.proofs.Common.{◌≡◌, ◌++◌}
use Rattle.hv_report.specs.Dumps.{first_lines}
use Rattle.hv_report.proofs.dumps.put_page.Given as goal

abbrev pub invariant-loop-line : goal.invariant-loop-line
invariant-loop-line l = l.out.items ≡ l.fn.out.items ++ first_lines l.store l.host l.line
