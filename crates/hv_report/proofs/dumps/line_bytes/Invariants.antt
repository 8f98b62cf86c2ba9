use Rattle.std.proofs.Common.{◌≡◌, ◌*◌}
use Rattle.hv_report.specs.Dumps.{words_bytes}
use Rattle.hv_report.proofs.dumps.line_bytes.Given as goal

abbrev pub invariant-loop-k : goal.invariant-loop-k
invariant-loop-k l = l.bytes.items ≡ words_bytes l.store l.host (8 * l.line) l.k
