use Rattle.cg_interp.proofs.recorded.run_recorded.Goals as goal

pub open_and_record-requires-clause-may : goal.open_and_record-requires-clause-may
open_and_record-requires-clause-may g c = record { spelled = c.requires.spelled; known = c.requires.known; empty = c.requires.heap; allowed = c.requires.budget }
