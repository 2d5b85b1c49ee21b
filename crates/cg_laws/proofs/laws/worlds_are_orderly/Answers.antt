use Rattle.cg_laws.proofs.HeldLivesRuns.{worlds_orderly}
use Rattle.cg_laws.proofs.laws.worlds_are_orderly.Goals as goal

pub returns : goal.returns
returns c = worlds_orderly
