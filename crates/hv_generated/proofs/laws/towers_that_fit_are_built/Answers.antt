use Rattle.hv_generated.proofs.Fitted.{towers_fit}
use Rattle.hv_generated.proofs.laws.towers_that_fit_are_built.Goals as goal

pub returns : goal.returns
returns c = towers_fit
