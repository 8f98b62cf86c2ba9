use Rattle.std.proofs.Common.{◌≡◌, ◌++◌, take}
use Rattle.hv_report.specs.Report.{faults_text}
use Rattle.hv_report.proofs.reporting.put_faults.Given as goal

abbrev pub invariant-loop-fault : goal.invariant-loop-fault
invariant-loop-fault l = l.out.items ≡ l.fn.out.items ++ faults_text (take l.fault-index l.faults)
