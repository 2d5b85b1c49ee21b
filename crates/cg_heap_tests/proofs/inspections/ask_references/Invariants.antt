use Rattle.cg_heap_tests.proofs.inspections.ask_references.Given as goal

abbrev pub ghosts-forwards : goal.ghosts-forwards
ghosts-forwards g a = record { name = a.blank.name; parts = a.blank.parts }

abbrev pub ghosts-backwards : goal.ghosts-backwards
ghosts-backwards g a = record { name = a.blank.name; parts = a.blank.parts }
