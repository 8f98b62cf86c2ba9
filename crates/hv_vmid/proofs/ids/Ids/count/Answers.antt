-- A path for each node.
use Rattle.std.proofs.Common.{◌∙◌, length, sym, ap}
use Rattle.hv_vmid.proofs.Numbering.{kept-length}
use Rattle.hv_vmid.proofs.ids.Ids.count.Goals as goal

pub returns : goal.returns
returns c = c.len.ensures ∙ sym (kept-length _ _ _ c.self.invariant) ∙ ap length c.self.view_is
