use Rattle.std.proofs.Common.{refl, sym, arith}
use Rattle.std.specs.Prelude.{is_some}
use Rattle.cg_graph.specs.Store.{objects_of}
use Rattle.cg_machine.specs.declared.event.Event.TheVariants.{Cleared}
use Rattle.cg_machine.specs.Weak.{callback_of}
use Rattle.cg_death.proofs.ClearingTurns.{turn-all_cleared, turn-cleared}
use Rattle.cg_death.proofs.LeavingTheRest.{rest-same, rest-lost}
use Rattle.cg_death.proofs.SteadyRows.{steady-all_cleared, steady-cleared}
use Rattle.cg_death.proofs.TakingTurns.{goes_on, tells}
use Rattle.cg_death.proofs.weak.clear_one.Goals as goal

pub returns-in-None : goal.returns-in-None
returns-in-None g c = λ script.
    goes_on refl (rest-same c.args.heap.now)
    (steady-all_cleared script c.args.heap.now c.args.object c.sound.ensures.rows (sym c.in-None.ensures.newest)) c.to.ensures
    (turn-all_cleared script c.args.heap.now c.args.object (sym c.in-None.ensures.newest)) (omega arith) (λ over. absurd (cc))

pub returns-in-Some : goal.returns-in-Some
returns-in-Some g c = λ script.
    let waits = is_some (callback_of (objects_of c.args.heap.now) c.in-Some.weak) in
    tells c.lose_referent.ensures (rest-lost waits c.in-Some.weak c.args.heap.now)
    (steady-cleared script c.args.heap.now c.args.object c.in-Some.weak c.sound.ensures c.in-Some.ensures.refers waits refl (sym c.in-Some.ensures.newest)) (Cleared c.in-Some.weak) c.tells.ensures
    (turn-cleared script c.args.heap.now c.args.object c.in-Some.weak c.sound.ensures.rows c.in-Some.ensures.refers c.requires.newer
    (sym c.in-Some.ensures.newest)) (c.in-Some.weak, refl)
