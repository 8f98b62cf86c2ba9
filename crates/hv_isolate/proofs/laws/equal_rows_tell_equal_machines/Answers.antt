use Rattle.hv_isolate.proofs.Equality.{equal_rows}
use Rattle.hv_isolate.proofs.laws.equal_rows_tell_equal_machines.Goals as goal

pub returns : goal.returns
returns c = equal_rows
