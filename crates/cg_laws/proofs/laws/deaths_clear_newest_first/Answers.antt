use Rattle.cg_laws.proofs.StackFactsOfRuns.{newest_first}
use Rattle.cg_laws.proofs.laws.deaths_clear_newest_first.Goals as goal

pub returns : goal.returns
returns c = newest_first
