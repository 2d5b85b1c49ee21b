-- What happens without a line and without a reachability pass, so that a turn may include the next step. (Ours.)
use Rattle.std.specs.Prelude.{◌≡◌, ◌≤◌, ◌⊎◌, ℕ, Bool, false, List, [], ◌∷◌, ◌++◌, Option, None, Some}
use Rattle.cg_script.specs.declared.Script.{Script}
use Rattle.cg_script.specs.declared.limits.TheConstants.{MOST_BUDGET}
use Rattle.cg_machine.specs.declared.event.Event.{Event}
use Rattle.cg_machine.specs.World.{World}
use Rattle.cg_machine.specs.Run.{StepTaken, Run, events_of, last_world}
use Rattle.cg_represents.specs.Represents.{detects, MakesNoDetection}
use Rattle.cg_laws.specs.Kept.{StaysKept}
use Rattle.cg_graph.specs.Store.{Store}
use Rattle.cg_heap.specs.Weak.{AreRows}
use Rattle.cg_death.specs.declared.release.Release.{Release}
use Rattle.cg_death.specs.declared.death.Death.{Death}
use Rattle.cg_death.specs.declared.answer.DeathStep.{DeathStep}
use Rattle.cg_death.specs.declared.answer.DeathStep.TheVariants as answer_of
use Rattle.cg_death.specs.Answers.{DeathSteps, MakesNone}
use Rattle.cg_death.specs.Deaths.{on_stack, IsSettled, DeathFalls, HasCause}
use Rattle.cg_policy.specs.Policy.{Policy}
use Rattle.cg_collect.specs.declared.collection.Collection.{Collection}
use Rattle.cg_collect.specs.declared.answer.CollectStep.{CollectStep}
use Rattle.cg_collect.specs.declared.answer.CollectStep.TheVariants as collect_answer
use Rattle.cg_collect.specs.Answers.{CollectSteps}
use Rattle.cg_collect.specs.Collections.{CollectFalls, KeepsReady}
use Rattle.cg_interp.specs.declared.activity.Activity.{Activity}
use Rattle.cg_interp.specs.declared.activity.Activity.TheVariants as activity
use Rattle.cg_interp.specs.Engines.{State, StandsFor, under, over, over_both}
use Rattle.cg_interp.specs.Collecting.{Collects}
use Rattle.cg_interp.specs.Telling.{CollectsNext}
use Rattle.cg_interp.specs.Turns.{GoesTo, GivesDeath, StaysOn}

-- The machine goes from one world to another in zero or more steps, with these lines and without a reachability pass.
pub record GoesPlainly (script : Script) (w : World) (events : List Event) (after : World) : Type 0 where
  pub steps : List StepTaken
  pub run : Run script w steps
  pub prints : events_of steps ≡ events
  pub ends : last_world w steps ≡ after
  pub none : MakesNoDetection w steps

-- So it reaches a world that the engine represents.
pub record ComesTelling (script : Script) (w : World) (events : List Event) (e : State) : Type 0 where
  pub after : World
  pub goes : GoesPlainly script w events after
  pub stands : StandsFor script e after

-- the same without a line
abbrev pub GoesQuietly : Script → World → World → Type 0
GoesQuietly script w after = GoesPlainly script w [] after

abbrev pub ComesTo : Script → World → State → Type 0
ComesTo script w e = ComesTelling script w [] e

-- From each world of a run that an engine with one top activity represented, it reaches one that an engine with another
-- represents, with these lines or quietly.
abbrev pub ComesBy : Script → List Event → Activity → State → Activity → State → Type 0
ComesBy script events top old top_now new = (w : World) → StandsFor script (under top old) w → StaysKept script old.first_budget w → ComesTelling script w events (under top_now new)

-- or with lines that now wait after others
abbrev pub TellsBy : Script → List Event → List Event → Activity → State → Activity → State → Type 0
TellsBy script waits now top old top_now new = (w : World) → StandsFor script (under top old) w → StaysKept script old.first_budget w
    → (lines : List Event) × (now ≡ waits ++ lines) × ComesTelling script w lines (under top_now new)

abbrev pub ComesFrom : Script → Activity → State → Activity → State → Type 0
ComesFrom script top old top_now new = ComesBy script [] top old top_now new

-- The end of a release: all its references are given up, or it answers an object whose death is to begin.
abbrev pub Released : Script → World → State → Release → Option ℕ → Type 0
Released script w e release None = GoesTo script w [] e
Released script w e release (Some o) = GivesDeath script w o (under (activity.Releasing release) e)

-- The last of some actions of a death: before it, the machine quietly reached a world that the engine represents.
pub record LastAction (script : Script) (w : World) (e : State) (now : Store) (after : Death) (answer : DeathStep) : Type 0 where
  pub store : Store
  pub death : Death
  pub comes : ComesTo script w (under (activity.Dying death) (over store e))
  pub steps : DeathSteps script store (on_stack death store) now (on_stack after now) answer
  pub settled : IsSettled death → IsSettled after
  pub object : after.object ≡ death.object
  pub falls : answer ≡ answer_of.Continue → DeathFalls death store after now
  pub cause : HasCause death now answer
  pub rows : AreRows store

-- A death is on top in a world of a run; the engine's first budget is allowed.
abbrev pub IsActing : Script → Store → Death → Type 0
IsActing script store death = (e : State) × (w : World) × (e.first_budget ≤ MOST_BUDGET) × StandsFor script (under (activity.Dying death) (over store e)) w × StaysKept script e.first_budget w

-- The actions of a death reach an answer, whatever the other activities.
abbrev pub Acts : Script → Store → Death → Store → Death → DeathStep → Type 0
Acts script store death now after answer = (e : State) (w : World) → StandsFor script (under (activity.Dying death) (over store e)) w
    → StaysKept script e.first_budget w → LastAction script w e now after answer

-- A death is on top of an engine that represents a world of a run; the engine's first budget is allowed.
pub record DiesNext (script : Script) (e : State) : Type 0 where
  pub death : Death
  pub below : List Activity
  pub top : e.activities ≡ activity.Dying death ∷ below
  pub world : World
  pub stands : StandsFor script e world
  pub kept : StaysKept script e.first_budget world
  pub first_budget : e.first_budget ≤ MOST_BUDGET

-- The death on top of an engine took its actions in its place, up to an answer. It is taken off if it is over.
pub record ActsOnTop (script : Script) (old new : State) (answer : DeathStep) : Type 0 where
  pub before : Death
  pub after : Death
  pub below : List Activity
  pub top : old.activities ≡ activity.Dying before ∷ below
  pub acts : Acts script old.store before new.store after answer
  pub stays : StaysOn after below new.activities
  pub over : answer ≡ answer_of.Gone → on_stack after new.store ≡ []
  pub policy : new.policy ≡ old.policy
  pub budget : new.budget ≡ old.budget

-- some death is the cause of an answer
abbrev pub HasSomeCause : Store → DeathStep → Type 0
HasSomeCause now answer = (death : Death) × HasCause death now answer

-- A collection on top went on: what the machine printed since is still to be printed too. It made no reachability pass;
-- after a step, the next step makes none either.
pub record CollectsOn (script : Script) (asked : Bool) (w : World) (left : List Event) (c : Collection) (e : State) : Type 0 where
  pub steps : List StepTaken
  pub run : Run script w steps
  pub none : MakesNoDetection w steps
  pub next : (steps ≡ []) ⊎ (detects (last_world w steps).stack ≡ false)
  pub collects : Collects script asked c e (left ++ events_of steps) (last_world w steps)

-- it and the heap are unchanged
abbrev pub HasNotMoved : Collection → Store → Collection → Store → Type 0
HasNotMoved old store new now = (old ≡ new) × (store ≡ now)

-- A collection has come this far without a line, whatever the other activities.
pub record CameSoFar (script : Script) (old : Collection) (store : Store) (policy : Policy) (new : Collection) (now : Store) (policy_now : Policy) : Type 0 where
  pub far : HasNotMoved old store new now ⊎ CollectFalls old store new now
  pub objects : MakesNone store now
  pub goes : (asked : Bool) (e : State) (w : World) (left : List Event) → Collects script asked old (over_both store policy e) left w
      → StaysKept script e.first_budget w → CollectsOn script asked w left new (over_both now policy_now e)

-- The last of some steps of a collection, which had come this far before it.
pub record LastStep (script : Script) (old : Collection) (store : Store) (policy : Policy) (new : Collection) (now : Store) (policy_now : Policy) (answer : CollectStep) : Type 0 where
  pub before : Collection
  pub store_before : Store
  pub policy_before : Policy
  pub came : CameSoFar script old store policy before store_before policy_before
  pub steps : CollectSteps script before store_before policy_before new now policy_now answer
  pub falls : answer ≡ collect_answer.Continue → CollectFalls before store_before new now

-- A collection is on top of a fit engine, and may make its next step.
abbrev pub IsCollecting : Script → Collection → Store → Policy → Type 0
IsCollecting script c store policy = (asked : Bool) × (e : State) × CollectsNext script asked c (over_both store policy e)

-- The collection on top of these activities made its steps in its place, up to an answer.
pub record StepsOnTop (script : Script) (asked : Bool) (before : Collection) (below : List Activity) (old new : State) (answer : CollectStep) : Type 0 where
  pub after : Collection
  pub stays : new.activities ≡ activity.Collecting asked after ∷ below
  pub last : LastStep script before old.store old.policy after new.store new.policy answer
  pub ready : KeepsReady script after new.store answer
  pub budget : new.budget ≡ old.budget
