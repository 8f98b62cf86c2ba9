use Rattle.std.proofs.Common.{◌≡◌, ◌++◌, take}
use Rattle.hv_report.specs.Dumps.{dumps_text}
use Rattle.hv_report.proofs.dumps.put_dumps.Given as goal

abbrev pub invariant-loop-dump : goal.invariant-loop-dump
invariant-loop-dump l = l.out.items ≡ l.fn.out.items ++ dumps_text l.store (take l.dump-index l.dumps)
