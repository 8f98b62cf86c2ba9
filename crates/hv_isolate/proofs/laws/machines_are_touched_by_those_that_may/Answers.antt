use Rattle.hv_isolate.proofs.Settling.{touchers}
use Rattle.hv_isolate.proofs.Touching.{touched}
use Rattle.hv_isolate.proofs.laws.machines_are_touched_by_those_that_may.Goals as goal

pub returns-clause-each : goal.returns-clause-each
returns-clause-each c = touchers

pub returns-clause-told : goal.returns-clause-told
returns-clause-told c = touched
