use Rattle.std.proofs.Common.{◌≡◌, ◌++◌, take}
use Rattle.hv_report.specs.Report.{watches_text}
use Rattle.hv_report.proofs.reporting.put_watches.Given as goal

abbrev pub invariant-loop-watch : goal.invariant-loop-watch
invariant-loop-watch g l = l.out.items ≡ l.fn.out.items ++ watches_text (g.N.Nested.state l.nested) (take l.watch-index l.watches)
