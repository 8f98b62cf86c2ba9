use Rattle.std.proofs.Common.{◌≡◌, ◌++◌, take}
use Rattle.hv_report.specs.Summary.{summed_watches}
use Rattle.hv_report.proofs.summing.put_summed.Given as goal

abbrev pub invariant-loop-watch : goal.invariant-loop-watch
invariant-loop-watch g l = l.out.items ≡ l.fn.out.items ++ summed_watches (g.N.Nested.state l.nested) (take l.watch-index l.watches)
