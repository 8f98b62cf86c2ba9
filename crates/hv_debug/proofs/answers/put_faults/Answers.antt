use Rattle.std.proofs.Common.{◌∙◌}
use Rattle.hv_run.specs.Play.{play_record}
use Rattle.hv_debug.proofs.Lines.{faults_more}
use Rattle.hv_debug.proofs.answers.put_faults.Goals as goal

pub loop-i-preserved : goal.loop-i-preserved
loop-i-preserved c =
    c.in_ok-put.ensures
    ∙ faults_more c.args.out.now.items c.loop-i.out.items c.deref.result.now (play_record c.args.play.now).kept c.loop-i.i c.kept.result c.kept.ensures c.loop-i.invariant (c.deref.ensures.value ∙ c.in_ok-line.ensures)
