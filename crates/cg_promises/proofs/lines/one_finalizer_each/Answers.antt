use Rattle.cg_promises.proofs.Promises.{one_finalizer}
use Rattle.cg_promises.proofs.lines.one_finalizer_each.Goals as goal

pub returns : goal.returns
returns c = one_finalizer
