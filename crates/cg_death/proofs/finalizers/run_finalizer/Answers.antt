use Rattle.std.proofs.Common.{refl, [], ◌∷◌, subst, sym, ap, ◌∙◌, arith}
use Rattle.cg_value.specs.declared.Place.TheVariants.{Gen}
use Rattle.cg_graph.specs.Changes.{held, moved}
use Rattle.cg_graph.specs.Store.{IsLive}
use Rattle.cg_heap.specs.Calls.{HasFewHolds, with_node, marked}
use Rattle.cg_heap.proofs.CallerLemmas.{lives_on, kinds-moved, kinds-with_node, total-moved, total-with_node}
use Rattle.cg_death.specs.declared.phase.Phase.TheVariants as phase_of
use Rattle.cg_death.proofs.Finalizing.{turn-no_finalizer, turn-finalizer}
use Rattle.cg_death.proofs.PhaseChanges.{turn-plain, steady-plain}
use Rattle.cg_death.proofs.LeavingTheRest.{rest-same, rest-own_frame}
use Rattle.cg_death.proofs.SteadyPhases.{steady-no_finalizer, steady-finalizer}
use Rattle.cg_death.proofs.TakingTurns.{running, goes_on, runs}
use Rattle.cg_death.proofs.finalizers.run_finalizer.Goals as goal

pub set_finalized-requires : goal.set_finalized-requires
set_finalized-requires g c =
    subst (λ st. IsLive st c.args.object) (sym c.move_to.ensures)
    (lives_on c.args.heap.now (moved c.args.object (Gen 0) c.args.heap.now) (kinds-moved c.args.object (Gen 0) c.args.heap.now) c.args.object c.requires.unheld.live)

pub hold-requires-clause-live : goal.hold-requires-clause-live
hold-requires-clause-live g c =
    subst (λ st. IsLive st c.args.object) (sym (c.set_finalized.ensures ∙ ap (with_node marked c.args.object) c.move_to.ensures))
    (lives_on (moved c.args.object (Gen 0) c.args.heap.now) (with_node marked c.args.object (moved c.args.object (Gen 0) c.args.heap.now))
    (kinds-with_node marked (λ n. refl) c.args.object (moved c.args.object (Gen 0) c.args.heap.now)) c.args.object
    (lives_on c.args.heap.now (moved c.args.object (Gen 0) c.args.heap.now) (kinds-moved c.args.object (Gen 0) c.args.heap.now) c.args.object c.requires.unheld.live))

pub hold-requires-clause-few : goal.hold-requires-clause-few
hold-requires-clause-few g c =
    subst HasFewHolds (sym (c.set_finalized.ensures ∙ ap (with_node marked c.args.object) c.move_to.ensures))
    (omega (arith, c.requires.few, total-moved c.args.object (Gen 0) c.args.heap.now, total-with_node marked (λ n. refl) c.args.object (moved c.args.object (Gen 0) c.args.heap.now)))

pub returns-then-is_plain : goal.returns-then-is_plain
returns-then-is_plain g c =
    let del = c.is_plain.ensures.del c.if-is_plain.true in
    let legacy = c.is_plain.ensures.legacy c.if-is_plain.true in
    let weak = c.is_plain.ensures.weak c.if-is_plain.true in
    goes_on refl (rest-same c.args.heap.now)
    (steady-plain c.args.script.now c.args.heap.now c.args.object del legacy weak c.sound.ensures.rows) c.to.ensures
    (turn-plain c.args.script.now c.args.heap.now c.args.object del legacy weak) (omega arith) (λ over. absurd (cc))

pub returns-in-None : goal.returns-in-None
returns-in-None g c =
    goes_on refl (rest-same c.args.heap.now)
    (steady-no_finalizer c.args.script.now c.args.heap.now c.args.object) c.to-in-None.ensures
    (turn-no_finalizer c.args.script.now c.args.heap.now c.args.object (sym c.in-None.ensures)) (omega arith) (λ over. absurd (cc))

pub returns-in-Some : goal.returns-in-Some
returns-in-Some g c =
    let new_is = c.hold.ensures ∙ ap (held (c.args.object ∷ [])) (c.set_finalized.ensures ∙ ap (with_node marked c.args.object) c.move_to.ensures) in
    runs new_is
    (rest-own_frame c.args.object (Gen 0) c.args.heap.now) (steady-finalizer c.args.script.now c.args.heap.now c.args.object)
    _ (c.runs.ensures ∙ ap (running phase_of.AfterFinalizer) c.finalizer_frame.ensures)
    (turn-finalizer c.args.script.now c.args.heap.now c.args.object c.in-Some.proc (sym c.in-Some.ensures) c.requires.unheld.live
    c.requires.unheld.none) refl refl (λ over. absurd (cc))
