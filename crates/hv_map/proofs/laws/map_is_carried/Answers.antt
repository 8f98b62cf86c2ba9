use Rattle.hv_map.proofs.Like.{composed_like}
use Rattle.hv_map.proofs.laws.map_is_carried.Goals as goal

pub returns : goal.returns
returns c = λ k F S T H G j n t v bound below agree like. composed_like k F S T below agree H G like j n t v bound
