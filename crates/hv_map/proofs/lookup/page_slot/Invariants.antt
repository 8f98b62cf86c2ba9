use Rattle.hv_map.proofs.lookup.page_slot.Given as goal

abbrev pub ghosts-page_slot_by : goal.ghosts-page_slot_by
ghosts-page_slot_by a = record { name = a.blank.name; parts = a.blank.parts }
