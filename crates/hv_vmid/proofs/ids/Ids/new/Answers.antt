-- No node is kept.
use Rattle.hv_vmid.proofs.Numbering.{paths-empty}
use Rattle.hv_vmid.proofs.ids.Ids.new.Goals as goal

pub returns : goal.returns
returns c = paths-empty c.new.result.slots c.new.ensures.empty
