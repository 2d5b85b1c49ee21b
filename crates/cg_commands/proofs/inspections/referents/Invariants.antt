use Rattle.cg_commands.proofs.inspections.referents.Given as goal

abbrev pub ghosts-referents_of : goal.ghosts-referents_of
ghosts-referents_of g a = record { name = a.blank.name; parts = a.blank.parts }
