use Rattle.cg_commands.proofs.inspections.referrers.Given as goal

abbrev pub ghosts-referrers_of : goal.ghosts-referrers_of
ghosts-referrers_of g a = record { name = a.blank.name; parts = a.blank.parts }
