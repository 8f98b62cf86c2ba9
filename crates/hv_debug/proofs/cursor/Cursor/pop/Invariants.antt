use Rattle.std.proofs.Common.{◌≡◌, length}
use Rattle.hv_debug.specs.Reaching.{moves_left}
use Rattle.hv_debug.proofs.cursor.Cursor.pop.Given as goal

abbrev pub decreases-loop-self : goal.decreases-loop-self
decreases-loop-self l = length l.self.events.now

abbrev pub invariant-loop-self : goal.invariant-loop-self
invariant-loop-self l = moves_left l.fn.self ≡ moves_left l.self
