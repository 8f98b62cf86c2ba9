use Rattle.std.proofs.Common.{◌≡◌, ◌++◌}
use Rattle.hv_report.specs.Report.{first_harts}
use Rattle.hv_report.proofs.reporting.put_harts.Given as goal

abbrev pub invariant-loop-hart : goal.invariant-loop-hart
invariant-loop-hart g l = record {
  text : l.out.items ≡ l.fn.out.items ++ first_harts (g.N.Nested.state l.fn.nested) l.hart;
  same : g.N.Nested.state l.nested ≡ g.N.Nested.state l.fn.nested;
}
