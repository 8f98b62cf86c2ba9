use Rattle.hv_top.proofs.engine_tests.found_twice.Given as goal

abbrev pub ghosts-found_twice_by : goal.ghosts-found_twice_by
ghosts-found_twice_by a = record { name = a.blank.name; parts = a.blank.parts }
