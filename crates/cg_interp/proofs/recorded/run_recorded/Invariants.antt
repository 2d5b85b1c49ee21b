use Rattle.cg_interp.proofs.recorded.run_recorded.Given as goal

abbrev pub ghosts-open_and_record : goal.ghosts-open_and_record
ghosts-open_and_record g a = record { name = a.blank.name; parts = a.blank.parts }
