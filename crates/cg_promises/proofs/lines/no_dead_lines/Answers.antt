use Rattle.cg_promises.proofs.Promises.{no_dead_lines_named}
use Rattle.cg_promises.proofs.lines.no_dead_lines.Goals as goal

pub returns : goal.returns
returns c = no_dead_lines_named
