-- A parent has a smaller number.
use Rattle.hv_vmid.proofs.ids.Ids.+path_of.Given as goal

abbrev pub decreases-path_of : goal.decreases-path_of
decreases-path_of l = l.id
