use Rattle.hv_map.proofs.Slots.{length-composed}
use Rattle.hv_map.proofs.laws.map_has_each_page.Goals as goal

pub returns : goal.returns
returns c = length-composed
