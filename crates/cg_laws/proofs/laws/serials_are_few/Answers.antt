use Rattle.cg_laws.proofs.SerialsOfRuns.{few_serials}
use Rattle.cg_laws.proofs.laws.serials_are_few.Goals as goal

pub returns : goal.returns
returns c = few_serials
