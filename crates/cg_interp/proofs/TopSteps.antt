-- A turn of the collection on top of an engine.
use Rattle.std.proofs.Common.{◌≡◌, refl, sym, ◌∙◌, ap, subst, ℕ, ◌+◌, ◌<◌, Bool, true, false, List, [], ◌∷◌, length, Some, arith}
use Rattle.std.specs.Prelude.{IfSome}
use Rattle.cg_script.specs.declared.Script.{Script}
use Rattle.cg_graph.specs.Store.{IsLive}
use Rattle.cg_heap.specs.Calls.{IsSound, HasFewHolds}
use Rattle.cg_machine.specs.declared.event.Event.{Event}
use Rattle.cg_machine.specs.declared.event.Event.TheVariants.{Collected}
use Rattle.cg_machine.specs.declared.event.FrameSpec.{FrameSpec}
use Rattle.cg_machine.specs.World.{World}
use Rattle.cg_machine.specs.Frame.{begin_death, start_frame}
use Rattle.cg_laws.specs.Kept.{StaysKept}
use Rattle.cg_collect.specs.declared.collection.Collection.{Collection}
use Rattle.cg_collect.specs.declared.answer.CollectStep.{CollectStep}
use Rattle.cg_collect.specs.declared.answer.CollectStep.TheVariants as answer_of
use Rattle.cg_interp.specs.declared.activity.Activity.{Activity}
use Rattle.cg_interp.specs.declared.activity.Activity.TheVariants as activity
use Rattle.cg_interp.specs.declared.turned.Turned.{Turned}
use Rattle.cg_interp.specs.declared.turned.Turned.TheVariants as turned
use Rattle.cg_interp.specs.Engines.{State, StandsFor, under, lowered}
use Rattle.cg_interp.specs.Stacks.{asked_on}
use Rattle.cg_interp.specs.Collecting.{StandsWith, Collects}
use Rattle.cg_interp.specs.Telling.{Advances, TurnsWith, IsAtAnyTurn, TurnsAny, CollectsNext, CollectsNextOnTop, CollectTurns}
use Rattle.cg_interp.specs.Turns.{Makes, DyingIsSound, IsFit}
use Rattle.cg_interp.specs.Quietly.{StepsOnTop, LastStep}
use Rattle.cg_interp.proofs.CollectMoves.{turns_quietly, turns_telling, turns_with_frame, turns_with_death, turns_to_end, frame_has_few, frame_function_lives, death_stands, room_for_step}
use Rattle.cg_interp.proofs.CollectOnward.{before_last, next_at_last, turns_at_last}
use Rattle.cg_interp.proofs.CollectTurns.{collects}
use Rattle.cg_interp.proofs.TopCollections.{collection_split}
use Rattle.cg_interp.proofs.TurnLemmas.{stands_alike}

-- without its top, whose room is free again, an engine is as fit
lowered_fit : (script : Script) (e : State) (top : Activity) (below : List Activity) → e.activities ≡ top ∷ below → IsFit script e → IsFit script (lowered below e)
lowered_fit script e top below is fit = record {
  names = fit.names;
  first_budget = fit.first_budget;
  room = let longer : length e.activities ≡ length (top ∷ below) = ap length is in omega (arith, longer, fit.room);
}

module _ (script : Script) (asked : Bool) (e : State) (sound : IsSound e.store) where
  -- The collection on top represents the world, as its step requires.
  collects_there : (c : Collection) (below : List Activity) → e.activities ≡ activity.Collecting asked c ∷ below → (left : List Event) (w : World) → StandsWith script e left w
      → StaysKept script e.first_budget w → Collects script asked c (lowered below e) left w
  collects_there c below top left w stands kept =
      collects script asked c (lowered below e) left w sound (kept [] tt)
      (stands_alike script e (under (activity.Collecting asked c) (lowered below e)) left w refl refl (sym top) refl stands)

  pub collects_next : asked_on e.activities ≡ Some asked → IsAtAnyTurn script e → CollectsNextOnTop script asked e
  collects_next is at =
      let (c, below, top) = collection_split e.activities asked is in
      record {
        collection = c;
        below = below;
        top = top;
        next = record {
          spelled = at.spelled;
          fit = lowered_fit script e (activity.Collecting asked c) below top at.fit;
          world = at.world;
          left = at.left;
          collects = collects_there c below top at.left at.world at.stands at.kept;
          kept = at.kept;
        };
      }

  -- its turn is a turn of the engine
  pub turns_of_collection : (new : State) (answer : Turned) → asked_on e.activities ≡ Some asked
      → ((c : Collection) (below : List Activity) → e.activities ≡ activity.Collecting asked c ∷ below → CollectTurns script asked c (lowered below e) new answer)
      → TurnsAny script e new answer
  turns_of_collection new answer is turns w left stands kept =
      let (c, below, top) = collection_split e.activities asked is in
      subst (λ l. TurnsWith script (Advances (record e { activities = l }) left new) w left new answer) (sym top)
      (turns c below top w left (collects_there c below top left w stands kept) kept)

-- room for what it may push
pub room_to_step : (script : Script) (asked : Bool) (e : State) → CollectsNextOnTop script asked e → 0 < e.room
room_to_step script asked e on = omega (arith, room_for_step script asked on.collection (lowered on.below e) on.next)

-- What it answers, from the steps that it made.
module _ (script : Script) (asked : Bool) (c : Collection) (below : List Activity) (old mid : State) where
  abbrev rest : State
  rest = lowered below old

  module _ (answer : CollectStep) (done : StepsOnTop script asked c below old mid answer) where
    abbrev at_last : State
    at_last = before_last script asked c rest done.after mid answer done.last

    by_last_step : (new : State) (turned_to : Turned) → CollectTurns script asked done.last.before at_last new turned_to → CollectTurns script asked c rest new turned_to
    by_last_step new turned_to turns = turns_at_last script asked c rest done.after mid answer done.last new turned_to turns

    next_there : CollectsNext script asked c rest → CollectsNext script asked done.last.before at_last
    next_there next = next_at_last script asked c rest done.after mid answer done.last next

  pub collection_goes_on : StepsOnTop script asked c below old mid answer_of.Continue → CollectTurns script asked c rest mid turned.Quiet
  collection_goes_on done =
      by_last_step answer_of.Continue done mid turned.Quiet
      (turns_quietly script asked done.last.before (at_last answer_of.Continue done) done.after mid done.stays done.budget done.ready (done.last.falls refl) done.last.steps)

  pub collection_tells : (event : Event) → StepsOnTop script asked c below old mid (answer_of.Emit event) → CollectTurns script asked c rest mid (turned.Line event)
  collection_tells event done =
      by_last_step (answer_of.Emit event) done mid (turned.Line event)
      (turns_telling script asked done.last.before (at_last (answer_of.Emit event) done) done.after mid done.stays done.budget event done.ready done.last.steps)

  module _ (spec : FrameSpec) (done : StepsOnTop script asked c below old mid (answer_of.Frame spec)) where
    pub collection_calls : (new : State) (answer : Turned) → ((w : World) → StandsFor script mid w → Makes script (start_frame script spec w) new answer) → CollectTurns script asked c rest new answer
    collection_calls new answer starts =
        by_last_step (answer_of.Frame spec) done new answer
        (turns_with_frame script asked done.last.before (at_last (answer_of.Frame spec) done) done.after mid done.stays done.budget spec done.ready.0 done.last.steps new answer starts)

    pub few_at_call : CollectsNext script asked c rest → IsSound mid.store → HasFewHolds mid.store
    few_at_call next sound =
        frame_has_few script asked done.last.before (at_last (answer_of.Frame spec) done) done.after mid done.stays done.budget spec done.ready.0 done.last.steps
        (next_there (answer_of.Frame spec) done next) sound

    pub lives_at_call : CollectsNext script asked c rest → 0 < old.budget → IfSome spec.func (λ f. IsLive mid.store f)
    lives_at_call next some =
        frame_function_lives script asked done.last.before (at_last (answer_of.Frame spec) done) done.after mid done.stays done.budget spec done.ready.0 done.last.steps
        (next_there (answer_of.Frame spec) done next) some

  module _ (o : ℕ) (done : StepsOnTop script asked c below old mid (answer_of.Died o)) where
    pub collection_kills : (new : State) → ((w : World) → StandsFor script mid w → StandsFor script new (begin_death o w)) → CollectTurns script asked c rest new turned.Quiet
    collection_kills new begins =
        by_last_step (answer_of.Died o) done new turned.Quiet
        (turns_with_death script asked done.last.before (at_last (answer_of.Died o) done) done.after mid done.stays done.budget o done.ready.0 done.last.steps done.ready.1 new begins)

    pub may_kill : CollectsNext script asked c rest → (s : Script) × (w : World) × StandsFor s mid w × DyingIsSound (begin_death o w)
    may_kill next =
        death_stands script asked done.last.before (at_last (answer_of.Died o) done) done.after mid done.stays done.budget o done.ready.0 done.last.steps
        (next_there (answer_of.Died o) done next)

  -- it is over, and taken off
  pub collection_ends : (collected set_aside : ℕ) → StepsOnTop script asked c below old mid (answer_of.Finished collected set_aside) → (new : State) (answer : Turned)
      → new.store ≡ mid.store → new.policy ≡ mid.policy → new.activities ≡ below → new.budget ≡ mid.budget
      → (asked ≡ true → answer ≡ turned.Line (Collected (collected + set_aside))) → (asked ≡ false → answer ≡ turned.Quiet) → CollectTurns script asked c rest new answer
  collection_ends collected set_aside done new answer store policy activities budget telling quiet =
      let finished = answer_of.Finished collected set_aside in
      let last : LastStep script c old.store old.policy done.after new.store new.policy finished =
      subst (λ st. LastStep script c old.store old.policy done.after st new.policy finished) (sym store)
      (subst (λ p. LastStep script c old.store old.policy done.after mid.store p finished) (sym policy) done.last) in
      turns_at_last script asked c rest done.after new finished last new answer
      (turns_to_end script asked last.before (before_last script asked c rest done.after new finished last) done.after new collected set_aside answer activities
      (budget ∙ done.budget) last.steps telling quiet)
