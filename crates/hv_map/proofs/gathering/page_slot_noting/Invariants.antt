use Rattle.hv_map.proofs.gathering.page_slot_noting.Given as goal

abbrev pub ghosts-page_slot_noting_by : goal.ghosts-page_slot_noting_by
ghosts-page_slot_noting_by a = record { name = a.blank.name; parts = a.blank.parts }
