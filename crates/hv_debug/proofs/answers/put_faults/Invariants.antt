use Rattle.std.proofs.Common.{◌≡◌, ◌++◌, take}
use Rattle.hv_run.specs.Play.{play_record}
use Rattle.hv_report.specs.Report.{faults_text}
use Rattle.hv_debug.proofs.answers.put_faults.Given as goal

abbrev pub invariant-loop-i : goal.invariant-loop-i
invariant-loop-i l = l.out.items ≡ l.fn.out.items ++ faults_text (take l.i (play_record l.play).kept)
