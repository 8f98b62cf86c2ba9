use Rattle.hv_map.proofs.Adding.{lists_all}
use Rattle.hv_map.proofs.laws.list_has_what_was_added.Goals as goal

pub returns : goal.returns
returns c = lists_all
