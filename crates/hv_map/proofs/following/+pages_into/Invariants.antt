use Rattle.hv_map.proofs.following.+pages_into.Given as goal

abbrev pub decreases-pages_into : goal.decreases-pages_into
decreases-pages_into g l = l.level
