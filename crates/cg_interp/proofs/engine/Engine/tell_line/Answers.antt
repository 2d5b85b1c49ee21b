use Rattle.std.proofs.Common.{sym, ap}
use Rattle.cg_interp.specs.Callers.{told}
use Rattle.cg_interp.proofs.engine.Engine.tell_line.Goals as goal

pub returns-else-keep-clause-tells : goal.returns-else-keep-clause-tells
returns-else-keep-clause-tells g c = λ script w comes. (
  ap told (sym c.in-Some.is),
  record { after = comes.after; goes = comes.goes; stands = c.wait.ensures.waits script comes.after comes.stands },
)
