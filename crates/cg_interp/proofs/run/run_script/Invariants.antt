use Rattle.cg_interp.proofs.run.run_script.Given as goal

abbrev pub ghosts-open_and_run : goal.ghosts-open_and_run
ghosts-open_and_run g a = record { name = a.blank.name; parts = a.blank.parts }
