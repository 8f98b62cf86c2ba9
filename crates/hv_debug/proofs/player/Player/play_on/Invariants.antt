use Rattle.std.proofs.Common.{◌-◌, length}
use Rattle.hv_debug.specs.Reaching.{CanGo}
use Rattle.hv_debug.proofs.Reaches.{Nears_by}
use Rattle.hv_debug.proofs.player.Player.play_on.Given as goal

abbrev pub invariant-loop-step : goal.invariant-loop-step
invariant-loop-step g l = record {
  can : CanGo (length (g.N.Nested.state l.nested).harts) l.self;
  nears : Nears_by l.breaks l.first (l.count - l._step) l.count l.fn.self (g.N.Nested.state l.fn.nested) l.self (g.N.Nested.state l.nested);
}
