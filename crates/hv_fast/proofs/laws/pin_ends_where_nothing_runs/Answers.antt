use Rattle.hv_fast.proofs.Growing.{pin_ends}
use Rattle.hv_fast.proofs.laws.pin_ends_where_nothing_runs.Goals as goal

pub returns : goal.returns
returns c = pin_ends
