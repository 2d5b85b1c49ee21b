-- How a collection partitions the objects, phase by phase. (Developer guide, "destroying unreachable objects"; `gc` manual,
-- `gc.garbage`.)
use Rattle.std.specs.Prelude.{◌≡◌, ◌≢◌, ℕ, false, List, [], ◌∷◌}
use Rattle.cg_value.specs.declared.Place.{Place}
use Rattle.cg_value.specs.declared.Place.TheVariants.{Untracked, Cand, Seen, Back, Legacy, Pend}
use Rattle.cg_value.specs.declared.KindCode.TheVariants.{List as ListKind}
use Rattle.cg_script.specs.declared.Script.{Script}
use Rattle.cg_graph.specs.Member.{Includes}
use Rattle.cg_graph.specs.Value.{references}
use Rattle.cg_graph.specs.Object.{Object, entries_of}
use Rattle.cg_machine.specs.World.{World, Collecting, Collection, CollectPhase, Start, WeakClearing, WeakCalling, AfterCallback, AfterRelease, Finalizing, AfterFinalizing, Split, Turns, Turn, AfterTurn, Ending}
use Rattle.cg_machine.specs.Holdings.{is_collecting}
use Rattle.cg_laws.specs.Laws.{IsOfCollection}
use Rattle.cg_machine.specs.Run.{StepTaken, IsRun, world_after}

-- In the weak phase no finalizer was looked at, and each weak reference that waits for its callback is in a place of
-- its own.
pub record IsInWeakPhase (waiting : List ℕ) (x : Object) : Type 0 where
  pub seen : x.place ≢ Seen
  pub back : x.place ≢ Back
  pub pending : x.place ≡ Pend → Includes waiting x.serial

-- From the second reachability pass on, no visited or waiting objects are left.
pub record IsInLatePhase (x : Object) : Type 0 where
  pub seen : x.place ≢ Seen
  pub back : x.place ≢ Back
  pub pending : x.place ≢ Pend

-- Where an object may be, by the phase of the collection. `Back` exists only within the second reachability pass.
abbrev pub StandsRightly : CollectPhase → Object → Type 0
StandsRightly Start x = ¬ IsOfCollection x.place
StandsRightly (WeakClearing waiting) x = IsInWeakPhase waiting x
StandsRightly (WeakCalling waiting) x = IsInWeakPhase waiting x
StandsRightly (AfterCallback weak waiting) x = IsInWeakPhase (weak ∷ waiting) x
StandsRightly (AfterRelease weak waiting) x = IsInWeakPhase (weak ∷ waiting) x
StandsRightly Finalizing x = (x.place ≢ Back) × (x.place ≢ Pend)
StandsRightly (AfterFinalizing o) x = (x.place ≢ Back) × (x.place ≢ Pend)
StandsRightly Split x = IsInLatePhase x
StandsRightly Turns x = IsInLatePhase x
StandsRightly (Turn o) x = IsInLatePhase x
StandsRightly (AfterTurn o) x = IsInLatePhase x
StandsRightly Ending x = IsInLatePhase x × (x.place ≢ Cand)

-- the places of condemned and uncollectable objects
abbrev pub IsFound : Place → Type 0
IsFound Cand = Unit {0}
IsFound Seen = Unit {0}
IsFound Legacy = Unit {0}
IsFound place = ⊥

-- the garbage list is a list, and untracked (`gc.garbage`; that it is untracked is ours)
pub record IsGarbageList (x : Object) : Type 0 where
  pub list : x.code ≡ ListKind
  pub untracked : x.place ≡ Untracked

-- the weak reference that is called back and given up, and the object that has its turn
abbrev pub handles : CollectPhase → List ℕ
handles (AfterCallback weak waiting) = weak ∷ []
handles (AfterRelease weak waiting) = weak ∷ []
handles (Turn o) = o ∷ []
handles (AfterTurn o) = o ∷ []
handles phase = []

-- Without a collection, no object is in a collection's place. With one, each object is where its phase allows. The garbage
-- list names no condemned or uncollectable object, since what it names is held from outside; it is never called back and
-- never has a turn.
pub record IsApart (w : World) : Type 0 where
  pub garbage : (x : Object) → Includes w.objects x → x.serial ≡ 1 → IsGarbageList x
  pub clear : is_collecting w ≡ false → (x : Object) → Includes w.objects x → ¬ IsOfCollection x.place
  pub phases : (c : Collection) → Includes w.stack (Collecting c) → (x : Object) → Includes w.objects x → StandsRightly c.phase x
  pub unhandled : (c : Collection) → Includes w.stack (Collecting c) → ¬ Includes (handles c.phase) 1
  pub unsaved : (x : Object) → Includes w.objects x → IsFound x.place → ¬ Includes (references (entries_of w.objects 1)) x.serial

-- This holds in every world of a run.
abbrev pub CollectionsAreApart : Type 0
CollectionsAreApart = (script : Script) (budget : ℕ) (steps : List StepTaken) → IsRun script budget steps → IsApart (world_after script budget steps)
