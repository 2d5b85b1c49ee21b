use Rattle.std.proofs.Common.{refl}
use Rattle.cg_interp.proofs.engine.Engine.refuse.Goals as goal

pub returns-clause-refuses : goal.returns-clause-refuses
returns-clause-refuses g c = λ script w is. (refl, c.stop_frame.ensures.stops script w is)
