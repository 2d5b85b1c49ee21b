use Rattle.cg_weakcoll.proofs.WorkedFinalizers.{both}
use Rattle.cg_weakcoll.proofs.exit_laws.two_finalizers_are_there.Goals as goal

pub returns : goal.returns
returns c = both
