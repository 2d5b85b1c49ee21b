-- How a heap and an interpreter's activities represent a world. The layers above the heap state their contracts by it.
-- (Ours.)
use Rattle.std.specs.Prelude.{◌≡◌, ℕ, Bool, true, false, ◌+◌, List, [], ◌∷◌, ◌⊎◌, flat_map}
use Rattle.cg_value.specs.declared.Place.TheVariants.{Pend}
use Rattle.cg_script.specs.declared.Script.{Script}
use Rattle.cg_graph.specs.Member.{Includes}
use Rattle.cg_graph.specs.Store.{Store, objects_of, outside_of, list_at, waiting_for}
use Rattle.cg_graph.specs.Rows.{Row}
use Rattle.cg_graph.specs.Holdings.{occurrences}
use Rattle.cg_machine.specs.declared.event.Event.{Event}
use Rattle.cg_machine.specs.declared.event.FrameSpec.{FrameSpec}
use Rattle.cg_machine.specs.World.{World, Activity, Dying, Collecting, Death, Collection, CollectPhase, Start, WeakClearing, WeakCalling, AfterCallback, AfterRelease, Split}
use Rattle.cg_machine.specs.Holdings.{holds}
use Rattle.cg_machine.specs.Frame.{begin_death, start_frame}
use Rattle.cg_machine.specs.Run.{StepTaken, Run, events_of, last_world}
use Rattle.cg_represents.specs.Orderly.{death_waits}

-- the weak references that a collection waits with, as the heap lists them: one that was given up and lives stands before the
-- others until it gets older
abbrev pub CollectionWaits : CollectPhase → List ℕ → Type 0
CollectionWaits (WeakClearing waiting) pending = pending ≡ waiting
CollectionWaits (WeakCalling waiting) pending = pending ≡ waiting
CollectionWaits (AfterCallback weak waiting) pending = pending ≡ weak ∷ waiting
CollectionWaits (AfterRelease weak waiting) pending = (pending ≡ waiting) ⊎ (pending ≡ weak ∷ waiting)
CollectionWaits phase pending = pending ≡ []

-- A heap represents a world: objects, names and serials are the same; the outside holds of an object are those of the
-- stack; the waiting rows are those of the deaths and the collection on the stack.
pub record Represents (store : Store) (w : World) : Type 0 where
  pub objects : objects_of store ≡ w.objects
  pub next_serial : w.next_serial ≡ store.last + 1
  pub names : store.names ≡ w.names
  pub outside : (s : ℕ) → outside_of store s ≡ occurrences s (flat_map holds w.stack)
  pub deaths : (d : Death) → Includes w.stack (Dying d) → death_waits d.phase ≡ waiting_for store d.object
  pub no_others : (r : Row) → Includes store.rows r → r.waits ≡ true → (d : Death) × Includes w.stack (Dying d) × (d.object ≡ r.referent)
  pub collection : (c : Collection) → Includes w.stack (Collecting c) → CollectionWaits c.phase (list_at store Pend)

-- the next step of a collection is a reachability pass; the start makes the first one
abbrev pub is_detection : CollectPhase → Bool
is_detection Start = true
is_detection Split = true
is_detection phase = false

-- the next step of a stack is one
abbrev pub detects : List Activity → Bool
detects (Collecting c ∷ below) = is_detection c.phase
detects stack = false

-- none of these steps is one
abbrev pub MakesNoDetection : World → List StepTaken → Type 0
MakesNoDetection w [] = Unit {0}
MakesNoDetection w (step ∷ steps) = (detects w.stack ≡ false) × MakesNoDetection step.world steps

-- Several steps contain no reachability pass: each pass is a call of its own.
abbrev pub MakesDetectionsAlone : World → List StepTaken → Type 0
MakesDetectionsAlone w [] = Unit {0}
MakesDetectionsAlone w (step ∷ []) = Unit {0}
MakesDetectionsAlone w (step ∷ next ∷ steps) = MakesNoDetection w (step ∷ next ∷ steps)

-- The machine goes from one world to another in zero or more steps, and prints these lines.
pub record Goes (script : Script) (w : World) (events : List Event) (after : World) : Type 0 where
  pub steps : List StepTaken
  pub run : Run script w steps
  pub prints : events_of steps ≡ events
  pub ends : last_world w steps ≡ after
  pub alone : MakesDetectionsAlone w steps

-- What a call of a death, a release or a collection may answer, with the world's stack above what lies below. It went
-- on, or printed a line:
pub record GoesOn (script : Script) (w : World) (events : List Event) (store : Store) (stack : List Activity) : Type 0 where
  pub after : World
  pub goes : Goes script w events after
  pub top : after.stack ≡ stack
  pub represents : Represents store after

-- It answers an object whose death is to begin: the machine's step also begins it.
pub record HandsOutDeath (script : Script) (w : World) (o : ℕ) (store : Store) (stack : List Activity) : Type 0 where
  pub before : World
  pub goes : Goes script w [] (begin_death o before)
  pub top : before.stack ≡ stack
  pub represents : Represents store before

-- It answers a frame: the machine's step also starts it, or ends the run because the budget is spent.
pub record HandsOutFrame (script : Script) (w : World) (spec : FrameSpec) (store : Store) (stack : List Activity) : Type 0 where
  pub before : World
  pub goes : Goes script w (start_frame script spec before).0 (start_frame script spec before).1
  pub top : before.stack ≡ stack
  pub represents : Represents store before
