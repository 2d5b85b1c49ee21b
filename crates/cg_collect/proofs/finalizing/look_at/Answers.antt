use Rattle.std.proofs.Common.{refl, sym, inr, arith}
use Rattle.cg_value.specs.declared.Place.TheVariants.{Seen}
use Rattle.cg_heap.specs.Calls.{marked}
use Rattle.cg_collect.proofs.NothingIsMade.{keeps-moved, keeps-own_frame}
use Rattle.cg_collect.proofs.FinalizerPhase.{condemned, turn-looked, turn-runs, apart_looked, fewer_left}
use Rattle.cg_collect.proofs.TakingTurns.{in_heap, goes_on, runs}
use Rattle.cg_collect.proofs.finalizing.look_at.Goals as goal

pub finalizer_to_run-requires : goal.finalizer_to_run-requires
finalizer_to_run-requires g c = (condemned c.args.heap.now c.sound.ensures.listed c.args.object c.requires.first).0

pub run-requires-clause-live : goal.run-requires-clause-live
run-requires-clause-live g c = (condemned c.args.heap.now c.sound.ensures.listed c.args.object c.requires.first).0

pub move_near-requires-clause-live : goal.move_near-requires-clause-live
move_near-requires-clause-live g c = (condemned c.args.heap.now c.sound.ensures.listed c.args.object c.requires.first).0

pub returns-in-Some : goal.returns-in-Some
returns-in-Some g c = λ facts policy.
    let store = c.args.heap.now in
    in_heap c.run.ensures.heap (runs c.run.ensures.turn (turn-runs store c.sound.ensures.listed c.args.object c.requires.first c.args.script.now facts policy c.in-Some.proc (sym c.in-Some.ensures))
    tt refl tt (λ n few. few) (omega arith, refl) (keeps-own_frame marked c.args.object Seen store))

pub returns-in-None : goal.returns-in-None
returns-in-None g c = λ facts policy.
    let store = c.args.heap.now in
    in_heap c.move_near.ensures (goes_on c.to.ensures (turn-looked store c.sound.ensures.listed c.args.object c.requires.first c.args.script.now facts policy (sym c.in-None.ensures))
    (apart_looked store c.sound.ensures.listed c.args.object c.requires.first c.requires.ready) tt (inr (refl, fewer_left store c.sound.ensures.listed c.args.object c.requires.first))
    (λ n few. few) (omega arith, refl) (keeps-moved c.args.object Seen store))
