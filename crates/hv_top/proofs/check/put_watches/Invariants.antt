use Rattle.std.proofs.Common.{◌≡◌, ◌++◌, take}
use Rattle.hv_report.specs.Check.{checked_watches}
use Rattle.hv_top.specs.Check.{start_state}
use Rattle.hv_top.proofs.check.put_watches.Given as goal

abbrev pub invariant-loop-watch : goal.invariant-loop-watch
invariant-loop-watch l = l.out.items ≡ l.fn.out.items ++ checked_watches (start_state l.job) (take l.watch-index l.watches)
