use Rattle.std.proofs.Common.{◌≡◌, take}
use Rattle.hv_run.specs.Play.{inside_of}
use Rattle.hv_run.proofs.running.mark.Given as goal

abbrev pub invariant-loop-i : goal.invariant-loop-i
invariant-loop-i l = take l.i l.inside ≡ inside_of l.path (take l.i l.watched)
