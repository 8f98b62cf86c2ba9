use Rattle.hv_run.proofs.Orders.{order}
use Rattle.hv_run.proofs.laws.lines_and_steps_of_two_harts_commute.Goals as goal

pub returns : goal.returns
returns c = order
