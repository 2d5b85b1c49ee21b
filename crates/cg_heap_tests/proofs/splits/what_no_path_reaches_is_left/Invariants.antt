use Rattle.cg_heap_tests.proofs.splits.what_no_path_reaches_is_left.Given as goal

abbrev pub ghosts-check_row : goal.ghosts-check_row
ghosts-check_row g a = record { name = a.blank.name; parts = a.blank.parts }
