use Rattle.cg_laws.proofs.OriginsOfRuns.{worlds_have_origins}
use Rattle.cg_laws.proofs.laws.worlds_have_origins.Goals as goal

pub returns : goal.returns
returns c = worlds_have_origins
