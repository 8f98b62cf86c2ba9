use Rattle.std.proofs.Common.{length}
use Rattle.hv_debug.specs.Reaching.{CanGo, moves_left}
use Rattle.hv_debug.proofs.Reaches.{Nears}
use Rattle.hv_debug.proofs.player.Player.advance.Given as goal

abbrev pub decreases-loop-next : goal.decreases-loop-next
decreases-loop-next g l = length (moves_left l.self.cursor)

abbrev pub invariant-loop-next : goal.invariant-loop-next
invariant-loop-next g l = record {
  can : CanGo (length (g.N.Nested.state l.nested).harts) l.self;
  nears : Nears l.fn.self (g.N.Nested.state l.fn.nested) l.self (g.N.Nested.state l.nested);
}
