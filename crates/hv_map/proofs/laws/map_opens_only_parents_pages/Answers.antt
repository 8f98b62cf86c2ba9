use Rattle.hv_map.proofs.Handed.{composed_opens}
use Rattle.hv_map.proofs.laws.map_opens_only_parents_pages.Goals as goal

pub returns : goal.returns
returns c = λ S F j n t v i s a x is e. composed_opens F j S n t v i s a x is e
