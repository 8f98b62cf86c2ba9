use Rattle.hv_nest.proofs.Routes.{receiving}
use Rattle.hv_nest.proofs.laws.refused_steps_change_only_what_is_told.Goals as goal

pub returns : goal.returns
returns c = receiving
