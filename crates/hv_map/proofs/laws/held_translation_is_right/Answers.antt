use Rattle.hv_map.proofs.Holding.{held_right}
use Rattle.hv_map.proofs.laws.held_translation_is_right.Goals as goal

pub returns : goal.returns
returns c = held_right
