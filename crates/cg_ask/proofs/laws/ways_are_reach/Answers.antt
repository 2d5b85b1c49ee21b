use Rattle.cg_ask.proofs.HolderPaths.{ways_are_reach}
use Rattle.cg_ask.proofs.laws.ways_are_reach.Goals as goal

pub returns : goal.returns
returns c = ways_are_reach
