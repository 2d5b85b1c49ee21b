-- What the machine goes on to after each answer of a collection's step, and what is required before and within a step.
use Rattle.std.proofs.Common.{◌≡◌, refl, sym, subst, ℕ, ◌+◌, ◌<◌, Bool, true, false, List, [], ◌∷◌, IsSome, arith}
use Rattle.std.specs.Prelude.{IfSome}
use Rattle.cg_script.specs.declared.Script.{Script}
use Rattle.cg_graph.specs.Store.{Store, IsLive}
use Rattle.cg_heap.specs.Calls.{IsSound, HasFewHolds}
use Rattle.cg_machine.specs.declared.event.Event.{Event}
use Rattle.cg_machine.specs.declared.event.Event.TheVariants.{Collected}
use Rattle.cg_machine.specs.declared.event.FrameSpec.{FrameSpec}
use Rattle.cg_machine.specs.World.{World}
use Rattle.cg_machine.specs.Frame.{begin_death, start_frame}
use Rattle.cg_represents.specs.Represents.{Represents}
use Rattle.cg_laws.specs.Kept.{IsKept}
use Rattle.cg_death.specs.Activities.{HasHolds}
use Rattle.cg_collect.specs.declared.answer.CollectStep.TheVariants as answer_of
use Rattle.cg_collect.specs.declared.collection.Collection.{Collection}
use Rattle.cg_collect.specs.Phases.{on_stack}
use Rattle.cg_collect.specs.Numbers.{AreSmall}
use Rattle.cg_collect.specs.Collections.{IsReadyForCollection, HandsOut, CollectFalls, held_by}
use Rattle.cg_collect.specs.Answers.{CollectSteps, CollectAnswer}
use Rattle.cg_interp.specs.declared.activity.Activity.TheVariants as activity
use Rattle.cg_interp.specs.declared.turned.Turned.{Turned}
use Rattle.cg_interp.specs.declared.turned.Turned.TheVariants as turned
use Rattle.cg_policy.specs.Policy.{Policy}
use Rattle.cg_interp.specs.Stacks.{Stacked}
use Rattle.cg_interp.specs.Engines.{State, StandsFor, under}
use Rattle.cg_interp.specs.Collecting.{Collects}
use Rattle.cg_interp.specs.Telling.{Advances, CollectsNext, CollectTurns}
use Rattle.cg_interp.specs.Turns.{Makes, DyingIsSound}
use Rattle.cg_interp.proofs.LawsOfEngines.{few_objects}
use Rattle.cg_interp.proofs.SmallNumbers.{small_at}
use Rattle.cg_interp.proofs.CollectHolds.{collection_is_held, few_holds_after, room_above}
use Rattle.cg_interp.proofs.CollectTurns.{stands_for_step, stands_before, goes_on_quietly, goes_on_telling, ends, starts_with, dies_with, death_moves, sound_at_death, function_lives, few_holds_before, store_in_run}

-- an engine by its parts
abbrev pub engine_of : Store → Policy → Stacked → ℕ → ℕ → State
engine_of store policy stack budget first_budget = record { store = store; policy = policy; activities = stack.activities; room = stack.room; budget = budget; first_budget = first_budget }

-- what a step of a collection requires
pub record MayStep (script : Script) (c : Collection) (e : State) : Type 0 where
  pub few : HasFewHolds e.store
  pub held : HasHolds e.store (held_by c)
  pub ready : IsReadyForCollection script c e.store
  pub small : AreSmall e.policy.numbers

module _ (script : Script) (asked : Bool) (c : Collection) (e : State) where
  pub may_step : CollectsNext script asked c e → IsSound e.store → MayStep script c e
  may_step next sound =
      let kept : IsKept script e.first_budget next.world = next.kept [] tt in
      let k = next.collects in
      record {
        few = few_holds_after script e.first_budget c.phase e.store next.world sound k.shows.represents kept.lawful next.fit.first_budget;
        held = collection_is_held asked c e.store next.world k.below k.shows.represents k.shows.top;
        ready = k.ready;
        small = subst AreSmall (sym k.shows.numbers) (small_at script e.first_budget next.world next.spelled kept.few next.fit.first_budget c.phase c.generation);
      }

  -- room for the activities that it may push
  pub room_for_step : CollectsNext script asked c e → 1 < e.room
  room_for_step next =
      let kept : IsKept script e.first_budget next.world = next.kept [] tt in
      let k = next.collects in
      let much : 4 < e.room = room_above script e c.phase next.world (on_stack asked c e.store) k.below k.shows.represents k.over k.shows.top kept.lawful next.fit in
      omega (arith, much)

module _ (script : Script) (asked : Bool) (c : Collection) (e : State) where
  -- what a step answers, by the remaining lines
  pub answered : (left : List Event) (w : World) (k : Collects script asked c e left w) → IsKept script e.first_budget w → (d : Collection) (new : State)
      (answer : Rattle.cg_collect.specs.declared.answer.CollectStep.CollectStep)
      → CollectSteps script c e.store e.policy d new.store new.policy answer → CollectAnswer script asked w k.below left d new.store new.policy answer
  answered left w k kept d new answer steps =
      subst (λ l. CollectAnswer script asked w k.below l d new.store new.policy answer) (sym k.lines) (steps asked w k.below (stands_for_step script asked c e left w k kept))

  module _ (d : Collection) (mid : State) (top : mid.activities ≡ activity.Collecting asked d ∷ e.activities) (budget : mid.budget ≡ e.budget) where
    pub turns_quietly : IsReadyForCollection script d mid.store → CollectFalls c e.store d mid.store → CollectSteps script c e.store e.policy d mid.store
        mid.policy answer_of.Continue → CollectTurns script asked c e mid turned.Quiet
    turns_quietly ready falls steps w left k stays = goes_on_quietly script asked c e left w k d mid top budget ready falls (answered left w k (stays [] tt) d mid answer_of.Continue steps)

    pub turns_telling : (event : Event) → IsReadyForCollection script d mid.store → CollectSteps script c e.store e.policy d mid.store mid.policy
        (answer_of.Emit event) → CollectTurns script asked c e mid (turned.Line event)
    turns_telling event ready steps w left k stays = goes_on_telling script asked c e left w k d mid top budget ready event (answered left w k (stays [] tt) d mid (answer_of.Emit event) steps)

    module _ (spec : FrameSpec) (h : HandsOut d mid.store) (steps : CollectSteps script c e.store e.policy d mid.store mid.policy (answer_of.Frame spec)) where
      pub turns_with_frame : (new : State) (answer : Turned) → ((w : World) → StandsFor script mid w → Makes script (start_frame script spec w) new answer) → CollectTurns script asked c e new answer
      turns_with_frame new answer starts w left k stays =
          let (none, left_none, gave) = answered left w k (stays [] tt) d mid (answer_of.Frame spec) steps in
          starts_with script (Advances (under (activity.Collecting asked c) e) left new) w left spec gave.before new answer none gave.goes
          (starts gave.before (stands_before script asked c e left w k d mid top budget gave.before h gave.shows gave.keeps.budget gave.keeps.outcome))

      pub frame_has_few : CollectsNext script asked c e → IsSound mid.store → HasFewHolds mid.store
      frame_has_few next sound =
          let (none, left_none, gave) = answered next.left next.world next.collects (next.kept [] tt) d mid (answer_of.Frame spec) steps in
          few_holds_before script e.first_budget spec mid.store next.world gave.before (subst (λ st. Represents st gave.before)
          (store_in_run d.phase mid.store h.runs) gave.shows.represents) gave.goes next.kept next.fit.first_budget (few_objects mid.store sound.objects)

      pub frame_function_lives : CollectsNext script asked c e → 0 < e.budget → IfSome spec.func (λ f. IsLive mid.store f)
      frame_function_lives next some =
          let (none, left_none, gave) = answered next.left next.world next.collects (next.kept [] tt) d mid (answer_of.Frame spec) steps in
          function_lives script e.first_budget spec mid.store next.world gave.before (subst (λ st. Represents st gave.before)
          (store_in_run d.phase mid.store h.runs) gave.shows.represents) gave.goes next.kept
          (omega (arith, some, gave.keeps.budget, next.collects.budget))

    module _ (o : ℕ) (h : HandsOut d mid.store) (steps : CollectSteps script c e.store e.policy d mid.store mid.policy (answer_of.Died o)) where
      pub turns_with_death : IsSome d.release → (new : State) → ((w : World) → StandsFor script mid w → StandsFor script new (begin_death o w)) → CollectTurns script asked c e new turned.Quiet
      turns_with_death gives new begins w left k stays =
          let (none, left_none, gave) = answered left w k (stays [] tt) d mid (answer_of.Died o) steps in
          dies_with script (Advances (under (activity.Collecting asked c) e) left new) w gave.before left o new none gave.goes
          (death_moves script asked c d e.store mid.store w gave.before k.below o k.shows.top gave.shows.top h.runs gives gave.goes)
          (begins gave.before (stands_before script asked c e left w k d mid top budget gave.before h gave.shows gave.keeps.budget gave.keeps.outcome))

      pub death_stands : CollectsNext script asked c e → (s : Script) × (w : World) × StandsFor s mid w × DyingIsSound (begin_death o w)
      death_stands next =
          let (none, left_none, gave) = answered next.left next.world next.collects (next.kept [] tt) d mid (answer_of.Died o) steps in (
            script,
            gave.before,
            stands_before script asked c e next.left next.world next.collects d mid top budget gave.before h gave.shows gave.keeps.budget gave.keeps.outcome,
            sound_at_death script e.first_budget next.world gave.before o next.kept gave.goes,
          )

  pub turns_to_end : (d : Collection) (new : State) (collected set_aside : ℕ) (answer : Turned) → new.activities ≡ e.activities → new.budget ≡ e.budget
      → CollectSteps script c e.store e.policy d new.store new.policy (answer_of.Finished collected set_aside)
      → (asked ≡ true → answer ≡ turned.Line (Collected (collected + set_aside))) → (asked ≡ false → answer ≡ turned.Quiet) → CollectTurns script asked c e new answer
  turns_to_end d new collected set_aside answer activities budget steps telling quiet w left k stays =
      ends script asked c e left w k new activities budget collected set_aside (answered left w k (stays [] tt) d new (answer_of.Finished collected set_aside)
      steps) answer (Collected (collected + set_aside)) refl telling quiet
