use Rattle.cg_promises.proofs.Promises.{no_names_of_dead}
use Rattle.cg_promises.proofs.lines.no_dead_names.Goals as goal

pub returns : goal.returns
returns c = no_names_of_dead
