use Rattle.cg_ask.proofs.HolderPaths.{lost_has_none}
use Rattle.cg_ask.proofs.laws.lost_has_none.Goals as goal

pub returns : goal.returns
returns c = lost_has_none
