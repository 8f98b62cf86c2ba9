use Rattle.hv_fast.proofs.Saying.{still_says}
use Rattle.hv_fast.proofs.laws.block_still_says.Goals as goal

pub returns : goal.returns
returns c = still_says
