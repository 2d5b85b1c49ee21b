use Rattle.cg_weakcoll.proofs.ExpandedStores.{expanded_stores}
use Rattle.cg_weakcoll.proofs.map_laws.expanded_stores_are_commands.Goals as goal

pub returns : goal.returns
returns c = expanded_stores
