use Rattle.cg_commands.proofs.inspections.why.Given as goal

abbrev pub ghosts-reason_of : goal.ghosts-reason_of
ghosts-reason_of g a = record { name = a.blank.name; parts = a.blank.parts }
