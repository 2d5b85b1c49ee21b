-- What holds in every run. Each is the contract of a function without a body: the first five of this crate, the others of one
-- above it. (Ours, after what PEP 442 and the developer guide promise.)
use Rattle.cg_represents.specs.Orderly.{IsHeldInItsFramesAlone, all_waits, is_cleared, IsOrderly}
use Rattle.cg_machine.specs.Lines.{line, text_of}
use Rattle.std.specs.Prelude.{◌≡◌, ◌≢◌, ℕ, ◌<◌, ◌≤◌, Bool, true, false, List, [], ◌∷◌, ◌++◌, ◌==◌, ◌⊎◌, Option, Some, None, count_by, is_some, option_to_list, IsTrue, flat_map}
use Rattle.cg_value.specs.declared.Entry.{Entry}
use Rattle.cg_value.specs.declared.Place.{Place}
use Rattle.cg_value.specs.declared.Place.TheVariants.{Untracked, Gen, Frozen, Cand, Seen, Back, Legacy, Pend}
use Rattle.cg_script.specs.declared.Script.{Script}
use Rattle.cg_script.specs.Texts.{TextsAreKnown}
use Rattle.cg_value.specs.declared.KindCode.TheVariants.{Weak}
use Rattle.cg_graph.specs.Member.{Includes}
use Rattle.cg_graph.specs.Value.{reference_in, references}
use Rattle.cg_graph.specs.Object.{Object, entries_of, serials, serials_at}
use Rattle.cg_graph.specs.Holdings.{graph_of, name_holdings}
use Rattle.cg_graph.specs.Reach.{Reach, IsOutsideHeld, edges}
use Rattle.cg_machine.specs.declared.event.Event.{Event}
use Rattle.cg_machine.specs.declared.event.Event.TheVariants.{Made, Enter, Cleared, Free, Alive, GcCollectable, GcUncollectable, GcSaved, GcStop, Value, Referent, Referrer, Held, Via}
use Rattle.cg_machine.specs.declared.event.FrameSort.TheVariants.{Del}
use Rattle.cg_machine.specs.Program.{finalizer_of, legacy_of}
use Rattle.cg_machine.specs.World.{World, Activity, TopLevel, Framed, Releasing, Dying, Collecting, ShuttingDown, Frame, Death, Collection, Split, Start, Outcome}
use Rattle.cg_machine.specs.Holdings.{holdings, in_degree, is_collection, is_dying, holds}
use Rattle.cg_machine.specs.Collect.{has_flag, save_all}
use Rattle.cg_machine.specs.Due.{due}
use Rattle.cg_machine.specs.Run.{world_after, StepTaken, IsRun, IsWholeRun, last_world, events_of, Step}

-- No run is stuck: each is the beginning of a whole run.
abbrev pub NoRunIsStuck : Type 0
NoRunIsStuck = (script : Script) (budget : ℕ) (steps : List StepTaken) → IsRun script budget steps → (more : List StepTaken) × (outcome : Outcome) × IsWholeRun script budget outcome (steps ++ more)

-- Several calls may make one step: between them its first lines have been printed, and it can still be finished.
pub record Underway (script : Script) (w : World) (printed : List Event) : Type 0 where
  pub rest : List Event
  pub after : World
  pub step : Step script w (printed ++ rest) after

-- What a run has printed, with the first lines of a step that is underway, is how the text of a whole run begins.
pub record BeginsWholeText (script : Script) (budget : ℕ) (printed : List Event) : Type 0 where
  pub steps : List StepTaken
  pub outcome : Outcome
  pub run : IsWholeRun script budget outcome steps
  pub rest : List ℕ
  pub text : text_of script steps ≡ flat_map (line script.names) printed ++ rest

-- What any run has printed is a prefix of the text of a whole run, even in the middle of a step.
abbrev pub FrontsBeginWholeTexts : Type 0
FrontsBeginWholeTexts = (script : Script) (budget : ℕ) (steps : List StepTaken) → IsRun script budget steps
    → (printed : List Event) → (printed ≡ []) ⊎ Underway script (world_after script budget steps) printed → BeginsWholeText script budget (events_of steps ++ printed)

-- In every world of a run a dying object is held in its frames alone. So only the release of its own hold leaves it at 0.
abbrev pub DyingIsUnheld : Type 0
DyingIsUnheld = (script : Script) (budget : ℕ) (steps : List StepTaken) → IsRun script budget steps
    → (d : Death) → Includes (world_after script budget steps).stack (Dying d) → IsHeldInItsFramesAlone d.object d.phase (holdings (world_after script budget steps))

-- Every world of a run is in order.
abbrev pub WorldsAreOrderly : Type 0
WorldsAreOrderly = (script : Script) (budget : ℕ) (steps : List StepTaken) → IsRun script budget steps → IsOrderly (world_after script budget steps)

-- an object had the same entries before
abbrev pub HadItsEntries : List Object → Object → Type 0
HadItsEntries before y = (x : Object) × Includes before x × (x.serial ≡ y.serial) × (y.entries ≡ x.entries)

-- the places that a collection uses for its partition
abbrev pub IsOfCollection : Place → Type 0
IsOfCollection Untracked = ⊥
IsOfCollection (Gen i) = ⊥
IsOfCollection Frozen = ⊥
IsOfCollection Cand = Unit {0}
IsOfCollection Seen = Unit {0}
IsOfCollection Back = Unit {0}
IsOfCollection Legacy = Unit {0}
IsOfCollection Pend = Unit {0}

-- an object was in the same place before
abbrev pub HadItsPlace : List Object → Object → Type 0
HadItsPlace before y = (x : Object) × Includes before x × (x.serial ≡ y.serial) × (y.place ≡ x.place)

-- What a step leaves alone below its activity: the activities, and the entries of each cleared dying object and each
-- waiting weak reference there. Only collections partition objects.
pub record LeavesBelow (w : World) (a : Activity) (below : List Activity) (after : World) : Type 0 where
  pub tops : List Activity
  pub stack : after.stack ≡ tops ++ below
  pub places : is_collection a ≡ false → (y : Object) → Includes after.objects y → IsOfCollection y.place → HadItsPlace w.objects y
  pub dying : (d : Death) → Includes below (Dying d) → is_cleared d.phase ≡ true → (y : Object) → Includes after.objects y → y.serial ≡ d.object → HadItsEntries w.objects y
  pub waiting : (weak : ℕ) → Includes (all_waits below) weak → (y : Object) → Includes after.objects y → y.serial ≡ weak → HadItsEntries w.objects y

-- This holds for every step of a run.
abbrev pub StepsLeaveWhatIsBelow : Type 0
StepsLeaveWhatIsBelow = (script : Script) (budget : ℕ) (steps : List StepTaken) (step : StepTaken) → IsRun script budget (steps ++ step ∷ [])
    → (a : Activity) (below : List Activity) → (world_after script budget steps).stack ≡ a ∷ below → LeavesBelow (world_after script budget steps) a below step.world

-- the serials in a line
abbrev pub named : Event → List ℕ
named (Made code serial) = serial ∷ []
named (Enter sort serial) = serial ∷ []
named (Cleared w) = w ∷ []
named (Free n) = n ∷ []
named (Alive n) = n ∷ []
named (GcCollectable n) = n ∷ []
named (GcUncollectable n) = n ∷ []
named (GcSaved n) = n ∷ []
named (Value v) = option_to_list (reference_in v)
named (Referent n) = n ∷ []
named (Referrer n) = n ∷ []
named (Held n) = n ∷ []
named (Via n) = n ∷ []
named event = []

-- the last line of a collection
abbrev pub is_stop : Event → Bool
is_stop (GcStop g m n) = true
is_stop event = false

-- a frame begins
abbrev pub is_enter : Event → Bool
is_enter (Enter sort serial) = true
is_enter event = false

-- the finalizer of an object begins
abbrev pub is_finalizer_of : ℕ → Event → Bool
is_finalizer_of n (Enter Del serial) = serial == n
is_finalizer_of n event = false

-- the next step is the second reachability pass of a collection without SAVEALL
pub record Splits (w : World) : Type 0 where
  pub collection : Collection
  pub below : List Activity
  pub top : w.stack ≡ Collecting collection ∷ below
  pub phase : collection.phase ≡ Split
  pub clears : has_flag collection.flags save_all ≡ false

-- the final set: what such a step leaves condemned
abbrev pub final_set : StepTaken → List ℕ
final_set split = serials_at split.world.objects Cand

-- Frames and deaths hold no member of the final set.
abbrev pub HoldsNot : ℕ → Activity → Type 0
HoldsNot o (TopLevel commands) = Unit {0}
HoldsNot o (Framed f) = ¬ Includes (holds (Framed f)) o
HoldsNot o (Releasing references) = Unit {0}
HoldsNot o (Dying d) = ¬ Includes (holds (Dying d)) o
HoldsNot o (Collecting c) = Unit {0}
HoldsNot o (ShuttingDown started) = Unit {0}

-- the locals of a frame: `self`, `ref`, the cells of its function, and the function
abbrev pub function_and_cells : List Object → Option ℕ → List ℕ
function_and_cells objects None = []
function_and_cells objects (Some f) = f ∷ references (entries_of objects f)

-- those of a list of activities
abbrev pub locals_of : List Object → Frame → List ℕ
locals_of objects f = f.subject ∷ function_and_cells objects f.function

-- if the activity is a frame, the object is not among its locals
abbrev pub IsNoLocal : List Object → ℕ → Activity → Type 0
IsNoLocal objects o (Framed f) = ¬ Includes (locals_of objects f) o
IsNoLocal objects o activity = Unit {0}

-- A living member of the final set: only members, the collection and releases hold it. It has no referent and no weak
-- reference refers to it. Its finalizer has run and it has no legacy one. It is no local of a frame.
pub record IsSealed (script : Script) (members : List ℕ) (w : World) (x : Object) : Type 0 where
  pub no_name : ¬ Includes (name_holdings w.names) x.serial
  pub no_root : x.serial ≢ 1
  pub no_hold : (a : Activity) → Includes w.stack a → HoldsNot x.serial a
  pub entries_inside : (y : Object) → Includes w.objects y → Includes (references y.entries) x.serial → Includes members y.serial
  pub no_referent : (y : Object) → Includes w.objects y → y.referent ≢ Some x.serial
  pub refers_to_none : x.referent ≡ None
  pub finalizer_has_run : IsTrue (is_some (finalizer_of script x)) → IsTrue x.finalized
  pub no_legacy : legacy_of script x ≡ None
  pub no_local : (a : Activity) → Includes w.stack a → IsNoLocal w.objects x.serial a

-- From the second reachability pass until its collection stops, each living member of the final set is sealed.
abbrev pub Sealing : Type 0
Sealing = (script : Script) (budget : ℕ) (before : List StepTaken) (split : StepTaken) (during : List StepTaken)
    → IsRun script budget (before ++ split ∷ during) → Splits (world_after script budget before) → count_by is_stop (events_of during) ≡ 0
    → (x : Object) → Includes (last_world split.world during).objects x → Includes (final_set split) x.serial → IsSealed script (final_set split) (last_world split.world during) x

-- During that time, up to the lines of the step that stops, the only line that names a member is the one that frees
-- it.
abbrev pub OnlyFreesNameMembers : Type 0
OnlyFreesNameMembers = (script : Script) (budget : ℕ) (before : List StepTaken) (split : StepTaken) (during : List StepTaken) (next : StepTaken)
    → IsRun script budget (before ++ split ∷ during ++ next ∷ []) → Splits (world_after script budget before) → count_by is_stop (events_of during) ≡ 0
    → (event : Event) (n : ℕ) → Includes (events_of (during ++ next ∷ [])) event → Includes (named event) n → Includes (final_set split) n → event ≡ Free n

-- an object was in a final set of a collection without SAVEALL
pub record WasFinal (script : Script) (budget : ℕ) (steps : List StepTaken) (o : ℕ) : Type 0 where
  pub before : List StepTaken
  pub split : StepTaken
  pub after : List StepTaken
  pub is : steps ≡ before ++ split ∷ after
  pub splits : Splits (world_after script budget before)
  pub member : Includes (final_set split) o

-- an object keeps its entries, and may get more
abbrev pub IsLengthened : Object → Object → Type 0
IsLengthened x y = (more : List Entry) × (y.entries ≡ x.entries ++ more)

-- in some world of a run, an object was a weak reference to another
pub record ReferredTo (script : Script) (budget : ℕ) (steps : List StepTaken) (weak referent : ℕ) : Type 0 where
  pub before : List StepTaken
  pub after : List StepTaken
  pub is : steps ≡ before ++ after
  pub object : Object
  pub member : Includes (world_after script budget before).objects object
  pub same : object.serial ≡ weak
  pub refers : object.referent ≡ Some referent

-- The next step may take entries of an object: the step of a command, of its own death, or, for a weak reference, of its
-- referent's death.
abbrev pub MayLoseEntries : Script → ℕ → List StepTaken → Object → World → List Activity → Type 0
MayLoseEntries script budget steps x w [] = ⊥
MayLoseEntries script budget steps x w (TopLevel commands ∷ below) = (commands ≢ []) × (due w ≡ None)
MayLoseEntries script budget steps x w (Framed f ∷ below) = (f.commands ≢ []) × (due w ≡ None)
MayLoseEntries script budget steps x w (Releasing references ∷ below) = ⊥
MayLoseEntries script budget steps x w (Dying d ∷ below) = (d.object ≡ x.serial) ⊎ (x.code ≡ Weak) × ReferredTo script budget steps x.serial d.object
MayLoseEntries script budget steps x w (Collecting c ∷ below) = ⊥
MayLoseEntries script budget steps x w (ShuttingDown started ∷ below) = ⊥

-- An object that was never in a final set loses entries in no other way.
abbrev pub EntriesLeaveOnlyBy : Type 0
EntriesLeaveOnlyBy = (script : Script) (budget : ℕ) (before : List StepTaken) (step : StepTaken) → IsRun script budget (before ++ step ∷ [])
    → (x y : Object) → Includes (world_after script budget before).objects x → Includes step.world.objects y → x.serial ≡ y.serial
    → ¬ WasFinal script budget before x.serial → ¬ IsLengthened x y → MayLoseEntries script budget before x (world_after script budget before) (world_after script budget before).stack

-- When a collection stops, each member of the final set, tuples included, has been freed, for each script of a class.
abbrev pub FinalSetIsFreedIn : (Script → Type 0) → Type 0
FinalSetIsFreedIn Fit = (script : Script) (budget : ℕ) (before : List StepTaken) (split : StepTaken) (during : List StepTaken) (stop : StepTaken)
    → Fit script → IsRun script budget (before ++ split ∷ during ++ stop ∷ []) → Splits (world_after script budget before)
    → count_by is_stop (events_of during) ≡ 0 → 0 < count_by is_stop stop.events
    → (o : ℕ) → Includes (final_set split) o → Includes (events_of during) (Free o)

-- the same for each script that names only its own texts
abbrev pub FinalSetIsFreed : Type 0
FinalSetIsFreed = FinalSetIsFreedIn TextsAreKnown

-- The finalizer of an object begins at most once.
abbrev pub OneFinalizerEach : Type 0
OneFinalizerEach = (script : Script) (budget : ℕ) (steps : List StepTaken) → IsRun script budget steps → (n : ℕ) → count_by (is_finalizer_of n) (events_of steps) ≤ 1

-- no name, entry, activity or referent refers to an object
abbrev pub IsGone : World → ℕ → Type 0
IsGone w n = (in_degree w n ≡ 0) × ((x : Object) → Includes w.objects x → x.referent ≢ Some n)

-- After the line that frees an object, no line names it, not even in the same step, and no later world has it.
abbrev pub NoDeadNames : Type 0
NoDeadNames = (script : Script) (budget : ℕ) (before : List StepTaken) (step : StepTaken) (after : List StepTaken) → IsRun script budget (before ++ step ∷ after)
    → (n : ℕ) (front back : List Event) → step.events ≡ front ++ Free n ∷ back
    → IsGone (last_world step.world after) n × ((event : Event) → Includes (back ++ events_of after) event → ¬ Includes (named event) n)

-- the next step does a command
abbrev pub BeginsCommand : List Activity → Type 0
BeginsCommand (TopLevel (command ∷ commands) ∷ below) = Unit {0}
BeginsCommand (Framed f ∷ below) = f.commands ≢ []
BeginsCommand stack = ⊥

-- When a command begins, each unheld object is dying, for each script of a class.
abbrev pub UnheldIsDyingIn : (Script → Type 0) → Type 0
UnheldIsDyingIn Fit = (script : Script) (budget : ℕ) (steps : List StepTaken) → Fit script → IsRun script budget steps → BeginsCommand (world_after script budget steps).stack
    → (x : Object) → Includes (world_after script budget steps).objects x → in_degree (world_after script budget steps) x.serial ≡ 0 → IsTrue (is_dying (world_after script budget steps) x.serial)

-- the same for each script that names only its own texts
abbrev pub UnheldIsDying : Type 0
UnheldIsDying = UnheldIsDyingIn TextsAreKnown

-- a collection of 2 is about to start, and the permanent generation is empty
pub record StartsFull (w : World) : Type 0 where
  pub collection : Collection
  pub below : List Activity
  pub top : w.stack ≡ Collecting collection ∷ below
  pub phase : collection.phase ≡ Start
  pub full : collection.generation ≡ 2
  pub none_frozen : serials_at w.objects Frozen ≡ []

-- an object is dying, or held by a root
abbrev pub IsRooted : World → ℕ → Type 0
IsRooted w o = IsTrue (is_dying w o) ⊎ IsOutsideHeld (holdings w) (graph_of w.objects) o

-- every object is reachable from such an object
abbrev pub NoGarbageIsLeft : World → Type 0
NoGarbageIsLeft w = (o : ℕ) → Includes (serials w.objects) o → Reach (IsRooted w) (Includes (serials w.objects)) (edges (graph_of w.objects)) o

-- After a full collection in which no frame begins there is no garbage, for each script of a class.
abbrev pub FullCollectionLeavesNoneIn : (Script → Type 0) → Type 0
FullCollectionLeavesNoneIn Fit = (script : Script) (budget : ℕ) (before during : List StepTaken) (stop : StepTaken)
    → Fit script → IsRun script budget (before ++ during ++ stop ∷ [])
    → StartsFull (world_after script budget before) → count_by is_enter (events_of during ++ stop.events) ≡ 0
    → count_by is_stop (events_of during) ≡ 0 → 0 < count_by is_stop stop.events → NoGarbageIsLeft stop.world

-- the same for each script that names only its own texts
abbrev pub FullCollectionLeavesNone : Type 0
FullCollectionLeavesNone = FullCollectionLeavesNoneIn TextsAreKnown
