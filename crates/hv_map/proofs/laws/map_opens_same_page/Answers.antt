use Rattle.hv_map.proofs.Handed.{composed_same}
use Rattle.hv_map.proofs.laws.map_opens_same_page.Goals as goal

pub returns : goal.returns
returns c = λ S F j n t v same. composed_same F j S n t v same
