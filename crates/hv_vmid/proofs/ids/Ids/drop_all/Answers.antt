-- No node is kept.
use Rattle.hv_vmid.proofs.Numbering.{paths-empty}
use Rattle.hv_vmid.proofs.ids.Ids.drop_all.Goals as goal

pub returns : goal.returns
returns c = paths-empty c.clear.new.self.slots c.clear.ensures.empty
