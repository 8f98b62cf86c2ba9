use Rattle.hv_map.proofs.following.trail.Given as goal

abbrev pub ghosts-pages_by : goal.ghosts-pages_by
ghosts-pages_by a = record { name = a.blank.name; parts = a.blank.parts }
