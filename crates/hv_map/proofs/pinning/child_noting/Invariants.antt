use Rattle.hv_map.proofs.pinning.child_noting.Given as goal

abbrev pub ghosts-child_noting_by : goal.ghosts-child_noting_by
ghosts-child_noting_by a = record { name = a.blank.name; parts = a.blank.parts }
