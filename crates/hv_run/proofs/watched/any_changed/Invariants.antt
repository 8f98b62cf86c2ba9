use Rattle.std.proofs.Common.{◌≡◌, drop}
use Rattle.hv_run.specs.Play.{any_marked}
use Rattle.hv_run.proofs.watched.any_changed.Given as goal

abbrev pub invariant-loop-row : goal.invariant-loop-row
invariant-loop-row l = any_marked l.foot (drop l.row-index l.row-items) ≡ any_marked l.foot l.row-items
