use Rattle.hv_move.specs.Placed.{AreWritten}
use Rattle.hv_move.proofs.placing.write_pages.Given as goal

abbrev pub invariant-loop-page : goal.invariant-loop-page
invariant-loop-page l = AreWritten l.fn.store l.store l.hosts l.copy l.page
