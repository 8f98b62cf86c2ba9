use Rattle.hv_cache.proofs.Finding.{others_stay}
use Rattle.hv_cache.proofs.laws.others_stay_where_there_is_room.Goals as goal

pub returns : goal.returns
returns c = others_stay
