use Rattle.hv_map.proofs.Handed.{composed_level}
use Rattle.hv_map.proofs.laws.map_is_shut_at_known_levels.Goals as goal

pub returns : goal.returns
returns c = λ S F j n t v i s a l c p w is e. composed_level F j S n t v i s a l c p w is e
