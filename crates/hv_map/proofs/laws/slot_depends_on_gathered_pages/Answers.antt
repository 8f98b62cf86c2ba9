use Rattle.hv_map.proofs.Rest.{slot_gathered}
use Rattle.hv_map.proofs.laws.slot_depends_on_gathered_pages.Goals as goal

pub returns : goal.returns
returns c = slot_gathered
