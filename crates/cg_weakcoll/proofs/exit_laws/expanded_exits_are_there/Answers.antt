use Rattle.cg_weakcoll.proofs.ExpandedExits.{expanded_exits}
use Rattle.cg_weakcoll.proofs.exit_laws.expanded_exits_are_there.Goals as goal

pub returns : goal.returns
returns c = expanded_exits
