use Rattle.hv_map.proofs.Assoc.{associative}
use Rattle.hv_map.proofs.laws.maps_associate.Goals as goal

pub returns : goal.returns
returns c = associative
