use Rattle.std.proofs.Common.{◌≡◌, false, take}
use Rattle.std.specs.List.{list_any}
use Rattle.hv_debug.specs.Playing.{is_at}
use Rattle.hv_debug.proofs.counter.any_at.Given as goal

abbrev pub invariant-loop-stop : goal.invariant-loop-stop
invariant-loop-stop g l = list_any (is_at (g.N.Nested.state l.nested) l.hart) (take l.stop-index l.breaks) ≡ false
