use Rattle.std.proofs.Common.{◌≡◌, ◌+◌, ◌≤◌, length, take, drop}
use Rattle.hv_irq.specs.Events.{total_of}
use Rattle.hv_nest.specs.Move.{last_of}
use Rattle.hv_run.specs.Record.{schedule}
use Rattle.hv_run.specs.Stands.{StandsFor, watches_of}
use Rattle.hv_run.proofs.playing.play.Given as goal

abbrev pub invariant-loop-event : goal.invariant-loop-event
invariant-loop-event g l = record {
  calls : l.play.calls + total_of (drop l.event-index l.events) ≤ total_of l.events + l.event-index;
  harts : length (g.N.Nested.state l.nested).harts ≡ length (g.N.Nested.state l.fn.nested).harts;
  stands : StandsFor l.play (g.N.Nested.state l.fn.nested) (schedule (take l.event-index l.events)) (watches_of l.watches);
  state : g.N.Nested.state l.nested ≡ last_of (g.N.Nested.state l.fn.nested) (schedule (take l.event-index l.events));
}
