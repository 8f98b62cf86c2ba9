use Rattle.hv_map.proofs.Holding.{held_stays}
use Rattle.hv_map.proofs.laws.held_translation_stays.Goals as goal

pub returns : goal.returns
returns c = held_stays
