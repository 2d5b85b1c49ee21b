-- What weak value maps answer, in every run. The lines `wset` and `wget` become three commands each; this file says what
-- they do. (Ours, after CPython's `weakref.WeakValueDictionary`. There an entry disappears with its value; here the entry
-- of a dead value stays, and `wget` answers none.)
use Rattle.std.specs.Prelude.{◌≡◌, ℕ, false, List, [], ◌∷◌, ◌++◌, Option, Some, None, count_by}
use Rattle.cg_value.specs.declared.Val.{Val}
use Rattle.cg_value.specs.declared.Val.TheVariants.{None as Nothing, Ref}
use Rattle.cg_value.specs.declared.KindCode.TheVariants.{Weak}
use Rattle.cg_script.specs.declared.Script.{Script}
use Rattle.cg_script.specs.Texts.{TextsAreKnown}
use Rattle.cg_script.specs.declared.Operand.{Operand}
use Rattle.cg_script.specs.declared.Operand.TheVariants.{None as NoneWord, Name}
use Rattle.cg_script.specs.declared.Command.{Command}
use Rattle.cg_script.specs.declared.Command.TheVariants.{MakeRef, Bind, Del, Put, Get, Deref}
use Rattle.cg_graph.specs.Member.{Includes}
use Rattle.cg_graph.specs.Object.{Object, entries_of}
use Rattle.cg_graph.specs.Value.{value_at}
use Rattle.cg_machine.specs.declared.event.Event.{Event}
use Rattle.cg_machine.specs.declared.event.Event.TheVariants.{Made, Cleared, Refused}
use Rattle.cg_machine.specs.World.{World, Activity}
use Rattle.cg_machine.specs.Holdings.{is_dying}
use Rattle.cg_machine.specs.Operands.{value_of}
use Rattle.cg_laws.specs.Origins.{commands_on}
use Rattle.cg_machine.specs.Due.{due}
use Rattle.cg_machine.specs.Run.{StepTaken, IsRun, last_world, events_of, world_after}
use Rattle.cg_laws.specs.Laws.{is_enter}

-- the commands of `wset M k v`: the weak reference has a name until it is in the map
abbrev pub wset_commands : ℕ → Operand → Operand → Operand → List Command
wset_commands temporary map key v = MakeRef temporary v NoneWord ∷ Put map key (Name temporary) ∷ Del temporary ∷ []

-- the commands of `x = wget M k`
abbrev pub wget_commands : ℕ → Operand → Operand → List Command
wget_commands x map key = Bind x NoneWord ∷ Get x map key ∷ Deref x (Name x) ∷ []

-- A step takes the first remaining command of the activity above these others, and does not refuse it.
pub record TakesCommand (w : World) (left : List Command) (below : List Activity) (step : StepTaken) : Type 0 where
  pub top : Activity
  pub stack : w.stack ≡ top ∷ below
  pub commands : commands_on top ≡ left
  pub not_due : due w ≡ None
  pub accepted : (n : ℕ) → ¬ Includes step.events (Refused n)

-- A step takes `t = ref v f`, and makes a weak reference to the object v.
pub record MakesWeak (w : World) (made : StepTaken) (weak object : ℕ) : Type 0 where
  pub name : ℕ
  pub target : Operand
  pub callback : Operand
  pub rest : List Command
  pub below : List Activity
  pub takes : TakesCommand w (MakeRef name target callback ∷ rest) below made
  pub target_is : value_of w target ≡ Some (Ref object)
  pub line : made.events ≡ Made Weak weak ∷ []

-- Whether a weak reference still refers to its object, by the lines since it was made. A dying one has no referent.
pub record RefersBy (since : List Event) (weak object : ℕ) (w : World) : Type 0 where
  pub uncleared : ¬ Includes since (Cleared weak) → is_dying w weak ≡ false → (y : Object) → Includes w.objects y → y.serial ≡ weak → y.referent ≡ Some object
  pub cleared : Includes since (Cleared weak) → (y : Object) → Includes w.objects y → y.serial ≡ weak → y.referent ≡ None

-- A weak reference refers to what it was made of until the line that it is cleared, and never again.
abbrev pub WeakReferencesKeepTheirReferents : Type 0
WeakReferencesKeepTheirReferents = (script : Script) (budget : ℕ) (before : List StepTaken) (made : StepTaken) (after : List StepTaken) → IsRun script budget (before ++ made ∷ after)
    → (weak object : ℕ) → MakesWeak (world_after script budget before) made weak object → RefersBy (events_of after) weak object (last_world made.world after)

-- The steps of a run that take the three commands of a `wget`, and the runs between them.
pub record Look : Type 0 where
  pub first : StepTaken
  pub early : List StepTaken
  pub second : StepTaken
  pub late : List StepTaken
  pub third : StepTaken

-- up to the third command, and all of them
abbrev pub steps_before_third : Look → List StepTaken
steps_before_third look = look.first ∷ look.early ++ look.second ∷ look.late

abbrev pub steps_of : Look → List StepTaken
steps_of look = steps_before_third look ++ look.third ∷ []

-- the worlds before the second and before the third command
abbrev pub before_second : Look → World
before_second look = last_world look.first.world look.early

abbrev pub before_third : Look → World
before_third look = last_world look.second.world look.late

-- From a world on, these are the steps of `x = wget M k`: none is refused, and no frame begins from the second to the
-- third.
pub record Looks (w : World) (x : ℕ) (map key : Operand) (look : Look) : Type 0 where
  pub rest : List Command
  pub below : List Activity
  pub binds : TakesCommand w (wget_commands x map key ++ rest) below look.first
  pub gets : TakesCommand (before_second look) (Get x map key ∷ Deref x (Name x) ∷ rest) below look.second
  pub derefs : TakesCommand (before_third look) (Deref x (Name x) ∷ rest) below look.third
  pub no_frame : count_by is_enter (events_of (look.second ∷ look.late)) ≡ 0

-- From a world on, these steps take the first two commands of `x = wget M k`. No frame begins between them, and the second is
-- refused, as it is if the map lacks the key.
pub record Misses (w : World) (x : ℕ) (map key : Operand) (first : StepTaken) (early : List StepTaken) (second : StepTaken) : Type 0 where
  pub rest : List Command
  pub below : List Activity
  pub binds : TakesCommand w (wget_commands x map key ++ rest) below first
  pub no_frame : count_by is_enter (events_of (first ∷ early)) ≡ 0
  pub top : Activity
  pub stack : (last_world first.world early).stack ≡ top ∷ below
  pub commands : commands_on top ≡ Get x map key ∷ Deref x (Name x) ∷ rest
  pub not_due : due (last_world first.world early) ≡ None
  pub number : ℕ
  pub refused : Includes second.events (Refused number)

-- Then the variable is none, in each fit script.
abbrev pub MissesLeaveNoneIn : (Script → Type 0) → Type 0
MissesLeaveNoneIn Fit = (script : Script) (budget : ℕ) (before : List StepTaken) (first : StepTaken) (early : List StepTaken) (second : StepTaken) → Fit script
    → IsRun script budget (before ++ first ∷ early ++ second ∷ [])
    → (x : ℕ) (map key : Operand) → Misses (world_after script budget before) x map key first early second → value_of second.world (Name x) ≡ Some Nothing

-- the same for each script that names only its own texts
abbrev pub MissesLeaveNone : Type 0
MissesLeaveNone = MissesLeaveNoneIn TextsAreKnown

-- in a world, the value under the key of a map is this weak reference
pub record IsUnder (w : World) (map key : Operand) (weak : ℕ) : Type 0 where
  pub dict : ℕ
  pub at : Val
  pub map_is : value_of w map ≡ Some (Ref dict)
  pub key_is : value_of w key ≡ Some at
  pub entry : value_at (entries_of w.objects dict) at ≡ Some (Ref weak)

-- a possibly missing referent, as a value
abbrev pub referent_value : Option ℕ → Val
referent_value None = Nothing
referent_value (Some o) = Ref o

-- The variable is the referent, before the third command, of the weak reference under the key.
pub record LookFinds (look : Look) (x : ℕ) (map key : Operand) : Type 0 where
  pub weak : ℕ
  pub under : IsUnder (before_second look) map key weak
  pub reference : Object
  pub member : Includes (before_third look).objects reference
  pub serial : reference.serial ≡ weak
  pub code : reference.code ≡ Weak
  pub value : value_of look.third.world (Name x) ≡ Some (referent_value reference.referent)

-- This holds after every `wget`.
abbrev pub LooksFindReferents : Type 0
LooksFindReferents = (script : Script) (budget : ℕ) (before : List StepTaken) (look : Look) → IsRun script budget (before ++ steps_of look)
    → (x : ℕ) (map key : Operand) → Looks (world_after script budget before) x map key look → LookFinds look x map key

-- the variable is the object or none, by the lines since the weak reference to it was made
pub record LookAnswers (since : List Event) (weak object x : ℕ) (w : World) : Type 0 where
  pub uncleared : ¬ Includes since (Cleared weak) → value_of w (Name x) ≡ Some (Ref object)
  pub cleared : Includes since (Cleared weak) → value_of w (Name x) ≡ Some Nothing

-- A `wget` answers the object of the weak reference under the key, exactly if that was not cleared since it was made.
abbrev pub LooksAnswer : Type 0
LooksAnswer = (script : Script) (budget : ℕ) (before : List StepTaken) (made : StepTaken) (between : List StepTaken) (look : Look) → IsRun script budget (before ++ made ∷ between ++ steps_of look)
    → (weak object : ℕ) → MakesWeak (world_after script budget before) made weak object
    → (x : ℕ) (map key : Operand) → Looks (world_after script budget (before ++ made ∷ between)) x map key look → IsUnder (before_second look) map key weak
    → LookAnswers (events_of (between ++ steps_before_third look)) weak object x look.third.world

-- The steps of a run that take the first two commands of a `wset`, and the run between them.
pub record MapStore : Type 0 where
  pub first : StepTaken
  pub early : List StepTaken
  pub second : StepTaken

-- From a world on, these are the steps of `wset M k v`: the first makes a weak reference to the object v, the second puts it into
-- the map.
pub record Stores (w : World) (temporary : ℕ) (map key v : Operand) (store : MapStore) (weak object : ℕ) : Type 0 where
  pub rest : List Command
  pub below : List Activity
  pub makes : TakesCommand w (wset_commands temporary map key v ++ rest) below store.first
  pub target_is : value_of w v ≡ Some (Ref object)
  pub line : store.first.events ≡ Made Weak weak ∷ []
  pub puts : TakesCommand (last_world store.first.world store.early) (Put map key (Name temporary) ∷ Del temporary ∷ rest) below store.second
  pub put_is : value_of (last_world store.first.world store.early) (Name temporary) ≡ Some (Ref weak)

-- all lines since the weak reference was made
abbrev pub since_making : MapStore → List StepTaken → List StepTaken
since_making store between = store.early ++ store.second ∷ between

-- A `wget` finds what a `wset` put into a map, while the entry has it, exactly if it was not cleared since it was
-- made.
abbrev pub WeakMapsAnswer : Type 0
WeakMapsAnswer = (script : Script) (budget : ℕ) (before : List StepTaken) (store : MapStore) (between : List StepTaken) (look : Look)
    → IsRun script budget (before ++ store.first ∷ since_making store between ++ steps_of look)
    → (temporary : ℕ) (stored_map stored_key v : Operand) (weak object : ℕ) → Stores (world_after script budget before) temporary stored_map stored_key v store weak object
    → (x : ℕ) (map key : Operand) → Looks (world_after script budget (before ++ store.first ∷ since_making store between)) x map key look → IsUnder (before_second look) map key weak
    → LookAnswers (events_of (since_making store between ++ steps_before_third look)) weak object x look.third.world
