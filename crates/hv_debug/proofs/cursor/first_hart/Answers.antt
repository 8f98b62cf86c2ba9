use Rattle.std.proofs.Common.{◌+◌, drop, sym, ◌∙◌}
use Rattle.hv_irq.specs.declared.Event.TheVariants.{Turn}
use Rattle.hv_run.specs.Record.{schedule}
use Rattle.hv_debug.proofs.Schedules.{hart_at, hart_of_turn}
use Rattle.hv_debug.proofs.cursor.first_hart.Goals as goal

pub returns-in-loop-event : goal.returns-in-loop-event
returns-in-loop-event c =
    let events = c.args.events.now in
    let i = c.loop-event.event-index in
    let turn = Turn c.in-Turn.hart c.in-Turn.count in
    sym
    (c.loop-event.invariant
    ∙ hart_at events i (Turn 0 0) turn c.loop-event-test.true c.in-Turn.is
    ∙ hart_of_turn c.in-Turn.hart c.in-Turn.count (schedule (drop (i + 1) events)) c.if-count-gt0.true)
