use Rattle.std.proofs.Common.{refl, [], ◌∷◌, subst, sym, ap, ◌∙◌, arith}
use Rattle.cg_value.specs.declared.Place.TheVariants.{Gen}
use Rattle.cg_graph.specs.Changes.{held, moved}
use Rattle.cg_graph.specs.Store.{IsLive}
use Rattle.cg_heap.specs.Calls.{HasFewHolds}
use Rattle.cg_heap.proofs.CallerLemmas.{lives_on, kinds-moved, total-moved}
use Rattle.cg_death.specs.declared.phase.Phase.TheVariants as phase_of
use Rattle.cg_death.proofs.Finalizing.{turn-no_legacy, turn-legacy}
use Rattle.cg_death.proofs.LeavingTheRest.{rest-same, rest-legacy_frame}
use Rattle.cg_death.proofs.SteadyPhases.{steady-no_legacy, steady-legacy}
use Rattle.cg_death.proofs.TakingTurns.{running, goes_on, runs}
use Rattle.cg_death.proofs.finalizers.run_legacy.Goals as goal

pub hold-requires-clause-live : goal.hold-requires-clause-live
hold-requires-clause-live g c =
    subst (λ st. IsLive st c.args.object) (sym c.move_to.ensures)
    (lives_on c.args.heap.now (moved c.args.object (Gen 0) c.args.heap.now) (kinds-moved c.args.object (Gen 0) c.args.heap.now) c.args.object c.requires.unheld.live)

pub hold-requires-clause-few : goal.hold-requires-clause-few
hold-requires-clause-few g c = subst HasFewHolds (sym c.move_to.ensures) (omega (arith, c.requires.few, total-moved c.args.object (Gen 0) c.args.heap.now))

pub returns-in-None : goal.returns-in-None
returns-in-None g c =
    goes_on refl (rest-same c.args.heap.now)
    (steady-no_legacy c.args.script.now c.args.heap.now c.args.object) c.to.ensures
    (turn-no_legacy c.args.script.now c.args.heap.now c.args.object (sym c.finalizers_of.ensures.legacy ∙ c.in-None.is)) (omega arith) (λ over. absurd (cc))

pub returns-in-Some : goal.returns-in-Some
returns-in-Some g c =
    let new_is = c.hold.ensures ∙ ap (held (c.args.object ∷ [])) c.move_to.ensures in
    runs new_is
    (rest-legacy_frame c.args.object (Gen 0) c.args.heap.now) (steady-legacy c.args.script.now c.args.heap.now c.args.object)
    _ (c.runs.ensures ∙ ap (running phase_of.AfterLegacy) c.finalizer_frame.ensures)
    (turn-legacy c.args.script.now c.args.heap.now c.args.object c.in-Some.proc (sym c.finalizers_of.ensures.legacy ∙ c.in-Some.is)
    c.requires.unheld.live c.requires.unheld.none) refl refl (λ over. absurd (cc))
