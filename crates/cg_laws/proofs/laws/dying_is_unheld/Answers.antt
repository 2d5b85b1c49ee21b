use Rattle.cg_laws.proofs.UnheldRuns.{dying_unheld}
use Rattle.cg_laws.proofs.laws.dying_is_unheld.Goals as goal

pub returns : goal.returns
returns c = dying_unheld
