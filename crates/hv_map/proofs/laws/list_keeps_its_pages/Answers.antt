use Rattle.hv_map.proofs.Adding.{lists_keep}
use Rattle.hv_map.proofs.laws.list_keeps_its_pages.Goals as goal

pub returns : goal.returns
returns c = lists_keep
