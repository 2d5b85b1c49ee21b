use Rattle.std.proofs.Common.{refl, false, sym, arith}
use Rattle.cg_machine.specs.declared.event.Event.TheVariants.{Cleared}
use Rattle.cg_death.proofs.ClearingTurns.{turn-all_detached, turn-detached}
use Rattle.cg_death.proofs.LeavingTheRest.{rest-same, rest-lost}
use Rattle.cg_death.proofs.SteadyRows.{steady-all_detached, steady-detached}
use Rattle.cg_death.proofs.TakingTurns.{goes_on, tells}
use Rattle.cg_death.proofs.weak.detach_one.Goals as goal

pub returns-in-None : goal.returns-in-None
returns-in-None g c =
    goes_on refl (rest-same c.args.heap.now)
    (steady-all_detached c.args.script.now c.args.heap.now c.args.object c.sound.ensures.rows (sym c.in-None.ensures.newest)) c.to.ensures
    (turn-all_detached c.args.script.now c.args.heap.now c.args.object (sym c.in-None.ensures.newest)) (omega arith) (λ over. absurd (cc))

pub returns-in-Some : goal.returns-in-Some
returns-in-Some g c =
    tells c.clear_weak.ensures
    (rest-lost false c.in-Some.weak c.args.heap.now)
    (steady-detached c.args.script.now c.args.heap.now c.args.object c.in-Some.weak c.sound.ensures c.in-Some.ensures.refers) (Cleared c.in-Some.weak) c.tells.ensures
    (turn-detached c.args.script.now c.args.heap.now c.args.object c.in-Some.weak c.sound.ensures.rows c.in-Some.ensures.refers
    (sym c.in-Some.ensures.newest)) (c.in-Some.weak, refl)
