-- What an engine is, and the worlds of the machine that it represents. (Ours.)
use Rattle.std.specs.Prelude.{◌≡◌, ◌≢◌, ℕ, ◌+◌, ◌++◌, Bool, true, false, List, [], ◌∷◌, drop, Option, None, Some}
use Rattle.std.specs.List.{list_any}
use Rattle.cg_script.specs.declared.Script.{Script}
use Rattle.cg_script.specs.declared.Command.{Command}
use Rattle.cg_value.specs.declared.Place.TheVariants.{Pend}
use Rattle.cg_graph.specs.Store.{Store, list_at}
use Rattle.cg_machine.specs.Program.{commands_of, body_of}
use Rattle.cg_machine.specs.World as machine
use Rattle.cg_machine.specs.World.{World, TopLevel, Framed, Releasing, Running, ShuttingDown}
use Rattle.cg_represents.specs.Represents.{Represents, CollectionWaits}
use Rattle.cg_commands.specs.declared.locals.Locals.{Locals}
use Rattle.cg_death.specs.Activities.{references_left, death_activities}
use Rattle.cg_death.specs.declared.release.Release.{Release}
use Rattle.cg_death.specs.declared.death.Death.{Death}
use Rattle.cg_death.specs.Deaths.{IsSettled}
use Rattle.cg_policy.specs.Policy.{Policy}
use Rattle.cg_collect.specs.declared.collection.Collection.{Collection}
use Rattle.cg_collect.specs.Phases.{on_stack, machine_phase}
use Rattle.cg_collect.specs.Collections.{HandsOut}
use Rattle.cg_interp.specs.declared.activity.Activity.{Activity}
use Rattle.cg_interp.specs.declared.activity.Activity.TheVariants as activity

-- the value of an engine: its heap, the collector's numbers, its activities (top first), how many more may be pushed,
-- the budget (how many frames may still start), and the budget at the start of the run
pub record State : Type 0 where
  pub store : Store
  pub policy : Policy
  pub activities : List Activity
  pub room : ℕ
  pub budget : ℕ
  pub first_budget : ℕ

-- an engine with another activity on top
abbrev pub under : Activity → State → State
under top e = record e { activities = top ∷ e.activities }

-- an engine with these activities, which are below its top: the room of the top is free again
abbrev pub lowered : List Activity → State → State
lowered below e = record e { activities = below; room = e.room + 1 }

-- an engine with another heap
abbrev pub over : Store → State → State
over store e = record e { store = store }

-- an engine with another heap and other collector's numbers
abbrev pub over_both : Store → Policy → State → State
over_both store policy e = record e { store = store; policy = policy }

-- the commands from a number on, or none
abbrev pub commands_from : Option ℕ → List Command → List Command
commands_from None commands = []
commands_from (Some next) commands = drop next commands

-- a frame of the machine: its locals, and what is left of its procedure
abbrev pub frame_of : Script → Locals → ℕ → Option ℕ → machine.Frame
frame_of script locals procedure next = record { sort = locals.sort; subject = locals.subject; function = locals.func; commands = commands_from next (body_of script procedure) }

-- references to give up are above the rest
abbrev pub released_first : Option Release → List machine.Activity → List machine.Activity
released_first None rest = rest
released_first (Some release) rest = Releasing (references_left release) ∷ rest

-- a death among the machine's activities, given the weak references that wait with its object
abbrev pub death_shown : Death → List ℕ → List machine.Activity
death_shown death waiting = released_first death.release (death_activities death.object death.phase waiting)

-- What a collection that answered a frame or a death represents on the stack. What runs above it may change the heap, but
-- leaves this alone. The machine's phase says what waited for its callback then.
pub record HasHandedOut (asked : Bool) (c : Collection) (tops : List machine.Activity) : Type 0 where
  pub then : Store
  pub shown : tops ≡ on_stack asked c then
  pub handing : HandsOut c then
  pub waited : (phase : machine.CollectPhase) → machine_phase c.phase (list_at then Pend) ≡ Some phase → CollectionWaits phase (list_at then Pend)

-- What an activity represents among the machine's, top first. The world says which weak references wait with a dying
-- object. A death gives up references only between callbacks or while it removes entries.
abbrev pub ActivityShows : Script → Activity → List machine.Activity → Type 0
ActivityShows script (activity.Script next) tops = tops ≡ TopLevel (commands_from next (commands_of script.items)) ∷ []
ActivityShows script (activity.Frame locals procedure next) tops = tops ≡ Framed (frame_of script locals procedure next) ∷ []
ActivityShows script (activity.Releasing release) tops = tops ≡ Releasing (references_left release) ∷ []
ActivityShows script (activity.Shutdown started) tops = tops ≡ ShuttingDown started ∷ []
ActivityShows script (activity.Dying death) tops = (waiting : List ℕ) × (tops ≡ death_shown death waiting) × IsSettled death
ActivityShows script (activity.Collecting asked collection) tops = HasHandedOut asked collection tops

-- an activity represents the top of a stack, at least one activity, above what lies below
pub record ShowsTop (script : Script) (top : Activity) (rest : List machine.Activity → Type 0) (stack : List machine.Activity) : Type 0 where
  pub tops : List machine.Activity
  pub below : List machine.Activity
  pub shows : ActivityShows script top tops
  pub some : tops ≢ []
  pub over : rest below
  pub is : stack ≡ tops ++ below

-- what several represent
abbrev pub ShowsAll : Script → List Activity → List machine.Activity → Type 0
ShowsAll script [] stack = stack ≡ []
ShowsAll script (top ∷ activities) stack = ShowsTop script top (ShowsAll script activities) stack

-- whether an activity is a collection, and whether a collection is under way
abbrev pub is_collecting : Activity → Bool
is_collecting (activity.Script next) = false
is_collecting (activity.Frame locals procedure next) = false
is_collecting (activity.Releasing release) = false
is_collecting (activity.Shutdown started) = false
is_collecting (activity.Dying death) = false
is_collecting (activity.Collecting asked collection) = true

abbrev pub any_collecting : List Activity → Bool
any_collecting activities = list_any is_collecting activities

-- An engine represents a world: its heap represents it, its policy has the numbers, and its activities represent the stack.
-- The world is running.
pub record StandsFor (script : Script) (e : State) (w : World) : Type 0 where
  pub represents : Represents e.store w
  pub shows : ShowsAll script e.activities w.stack
  pub budget : w.budget ≡ e.budget
  pub running : w.outcome ≡ Running
  pub numbers : e.policy.numbers ≡ w.numbers
  pub collecting : e.policy.running ≡ any_collecting e.activities
