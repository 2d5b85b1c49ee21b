use Rattle.std.proofs.Common.{refl}
use Rattle.cg_interp.proofs.engine.Engine.tell.Goals as goal

pub returns-clause-tells : goal.returns-clause-tells
returns-clause-tells g c = λ script after is. (refl, c.wait_releasing.ensures.waits script after is)
