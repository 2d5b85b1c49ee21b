use Rattle.cg_laws.proofs.StackFactsOfRuns.{locals_live}
use Rattle.cg_laws.proofs.laws.locals_live.Goals as goal

pub returns : goal.returns
returns c = locals_live
