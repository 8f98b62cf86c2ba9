use Rattle.hv_isolate.proofs.Equality.{equal_starts}
use Rattle.hv_isolate.proofs.laws.agreeing_starts_stay_equal.Goals as goal

pub returns : goal.returns
returns c = equal_starts
