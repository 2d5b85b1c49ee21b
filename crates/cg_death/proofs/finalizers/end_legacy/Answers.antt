use Rattle.std.proofs.Common.{refl, [], ◌∷◌, ap, ◌∙◌, true, false, arith}
use Rattle.std.specs.Prelude.{if◌then◌else◌}
use Rattle.cg_value.specs.declared.Place.TheVariants.{Untracked}
use Rattle.cg_graph.specs.Changes.{unheld, moved}
use Rattle.cg_machine.specs.declared.event.Event.TheVariants.{Alive}
use Rattle.cg_death.proofs.Finalizing.{turn-unheld_after_legacy, turn-brought_back_by_legacy}
use Rattle.cg_death.proofs.LeavingTheRest.{rest-frame_ended}
use Rattle.cg_death.proofs.SteadyPhases.{steady-legacy_ended, steady-over}
use Rattle.cg_death.proofs.TakingTurns.{is_held, goes_on, tells}
use Rattle.cg_death.proofs.finalizers.end_legacy.Goals as goal

pub returns-then-is_unheld_now : goal.returns-then-is_unheld_now
returns-then-is_unheld_now g c = λ script.
    let none = c.is_unheld_now.ensures.answer.0 c.if-is_unheld_now.true in
    let new_is = c.is_unheld_now.ensures.rest ∙ ap (λ b. if b then moved c.args.object Untracked (unheld (c.args.object ∷ []) c.args.heap.now)
    else unheld (c.args.object ∷ []) c.args.heap.now) c.if-is_unheld_now.true in
    goes_on new_is
    (rest-frame_ended true c.args.object Untracked c.args.heap.now) (steady-legacy_ended script c.args.heap.now c.args.object c.requires none) c.to.ensures
    (turn-unheld_after_legacy script c.args.heap.now c.args.object none) (omega arith) (λ over. absurd (cc))

pub returns-else-is_unheld_now : goal.returns-else-is_unheld_now
returns-else-is_unheld_now g c = λ script.
    let new_is = c.is_unheld_now.ensures.rest ∙ ap (λ b. if b then moved c.args.object Untracked (unheld (c.args.object ∷ []) c.args.heap.now)
    else unheld (c.args.object ∷ []) c.args.heap.now) c.if-is_unheld_now.false in
    tells new_is (rest-frame_ended false c.args.object Untracked c.args.heap.now)
    (λ s. steady-over script (unheld (c.args.object ∷ []) c.args.heap.now) c.args.object s.no_own_row) (Alive c.args.object) c.tells.ensures
    (turn-brought_back_by_legacy script c.args.heap.now c.args.object (λ z. is_held c.is_unheld_now.result c.if-is_unheld_now.false (c.is_unheld_now.ensures.answer.1 z))) refl
