use Rattle.cg_laws.proofs.RunsApart.{runs_apart}
use Rattle.cg_laws.proofs.laws.collections_are_apart.Goals as goal

pub returns : goal.returns
returns c = runs_apart
