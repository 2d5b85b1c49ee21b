use Rattle.std.proofs.Common.{refl}
use Rattle.cg_interp.proofs.engine.Engine.quit.Goals as goal

pub returns-clause-quits : goal.returns-clause-quits
returns-clause-quits g c = λ script w is. (refl, c.stop.ensures.stops script w is)
