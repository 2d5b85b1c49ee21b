use Rattle.std.proofs.Common.{None, refl, subst, sym, ap, ◌∙◌, arith}
use Rattle.cg_value.specs.declared.Place.TheVariants.{Seen}
use Rattle.cg_graph.specs.Changes.{moved}
use Rattle.cg_graph.specs.Store.{IsLive}
use Rattle.cg_heap.specs.Calls.{HasFewHolds, with_node, marked}
use Rattle.cg_heap.proofs.CallerLemmas.{lives_on, kinds-moved, kinds-with_node, total-moved, total-with_node}
use Rattle.cg_machine.specs.declared.event.FrameSpec.{FrameSpec}
use Rattle.cg_collect.specs.declared.answer.CollectStep.TheVariants as answer_of
use Rattle.cg_collect.specs.declared.phase.Phase.TheVariants as phase_of
use Rattle.cg_collect.proofs.finalizing.run.Goals as goal

pub set_finalized-requires : goal.set_finalized-requires
set_finalized-requires g c =
    subst (λ st. IsLive st c.args.object) (sym c.move_to.ensures)
    (lives_on c.args.heap.now (moved c.args.object Seen c.args.heap.now) (kinds-moved c.args.object Seen c.args.heap.now) c.args.object c.requires.live)

pub hold-requires-clause-live : goal.hold-requires-clause-live
hold-requires-clause-live g c =
    subst (λ st. IsLive st c.args.object) (sym (c.set_finalized.ensures ∙ ap (with_node marked c.args.object) c.move_to.ensures))
    (lives_on (moved c.args.object Seen c.args.heap.now) (with_node marked c.args.object (moved c.args.object Seen c.args.heap.now))
    (kinds-with_node marked (λ n. refl) c.args.object (moved c.args.object Seen c.args.heap.now)) c.args.object
    (lives_on c.args.heap.now (moved c.args.object Seen c.args.heap.now) (kinds-moved c.args.object Seen c.args.heap.now) c.args.object c.requires.live))

pub hold-requires-clause-few : goal.hold-requires-clause-few
hold-requires-clause-few g c =
    subst HasFewHolds (sym (c.set_finalized.ensures ∙ ap (with_node marked c.args.object) c.move_to.ensures))
    (omega (arith, c.requires.few, total-moved c.args.object Seen c.args.heap.now, total-with_node marked (λ n. refl) c.args.object (moved c.args.object Seen c.args.heap.now)))

pub returns-clause-turn : goal.returns-clause-turn
returns-clause-turn g c = c.runs.ensures ∙ ap (λ (f : FrameSpec). record {
  phase = phase_of.AfterFinalizing c.args.object;
  release = None;
  collected = 0;
  answer = answer_of.Frame f;
}) c.finalizer_frame-frame.ensures
