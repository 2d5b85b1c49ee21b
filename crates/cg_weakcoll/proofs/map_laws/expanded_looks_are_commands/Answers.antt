use Rattle.cg_weakcoll.proofs.ExpandedStores.{expanded_looks}
use Rattle.cg_weakcoll.proofs.map_laws.expanded_looks_are_commands.Goals as goal

pub returns : goal.returns
returns c = expanded_looks
