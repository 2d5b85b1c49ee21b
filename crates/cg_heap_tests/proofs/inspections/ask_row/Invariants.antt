use Rattle.cg_heap_tests.proofs.inspections.ask_row.Given as goal

abbrev pub ghosts-reason : goal.ghosts-reason
ghosts-reason g a = record { name = a.blank.name; parts = a.blank.parts }
