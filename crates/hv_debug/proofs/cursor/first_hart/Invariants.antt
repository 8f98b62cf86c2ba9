use Rattle.std.proofs.Common.{◌≡◌, drop}
use Rattle.hv_run.specs.Record.{schedule}
use Rattle.hv_debug.specs.Playing.{next_hart}
use Rattle.hv_debug.proofs.cursor.first_hart.Given as goal

abbrev pub invariant-loop-event : goal.invariant-loop-event
invariant-loop-event l = next_hart (schedule l.events) ≡ next_hart (schedule (drop l.event-index l.events))
