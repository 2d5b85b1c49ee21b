use Rattle.std.proofs.Common.{refl, sym, arith}
use Rattle.cg_death.proofs.Callbacks.{turn-all_called}
use Rattle.cg_death.proofs.LeavingTheRest.{rest-same}
use Rattle.cg_death.proofs.SteadyRows.{steady-all_called}
use Rattle.cg_death.proofs.TakingTurns.{goes_on}
use Rattle.cg_death.proofs.weak.call_one.Goals as goal

pub returns-in-None : goal.returns-in-None
returns-in-None g c = λ script.
    goes_on refl (rest-same c.args.heap.now)
    (steady-all_called script c.args.heap.now c.args.object (sym c.in-None.ensures)) c.to.ensures
    (turn-all_called script c.args.heap.now c.args.object (sym c.in-None.ensures)) (omega arith) (λ over. absurd (cc))
