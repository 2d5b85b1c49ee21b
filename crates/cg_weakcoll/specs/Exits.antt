-- Exit finalizers in a script, and what they do in its runs. (Ours; after CPython's `weakref.finalize`: the function is called
-- when the object dies, or at the end, newest first, and at most once.)
use Rattle.std.specs.Prelude.{◌≡◌, ◌≢◌, ℕ, ◌+◌, ◌<◌, ◌≤◌, ◌⊎◌, Bool, true, false, ◌==◌, List, [], ◌∷◌, ◌++◌, Option, Some, None, count_by, if◌then◌else◌, map, reverse, slice_get}
use Rattle.cg_value.specs.declared.KindCode.TheVariants.{Weak}
use Rattle.cg_value.specs.declared.Val.TheVariants.{Ref}
use Rattle.cg_script.specs.declared.Script.{Script}
use Rattle.cg_script.specs.declared.ClassDef.{ClassDef}
use Rattle.cg_script.specs.declared.Command.{Command}
use Rattle.cg_script.specs.declared.Command.TheVariants.{Bind, Call, Del, Deref, MakeFunc, MakeRef, Quit}
use Rattle.cg_script.specs.declared.Operand.{Operand}
use Rattle.cg_script.specs.declared.Operand.TheVariants.{Name}
use Rattle.cg_script.specs.Texts.{TextsAreKnown, command_names, operand_names}
use Rattle.cg_graph.specs.Member.{Includes}
use Rattle.cg_graph.specs.Object.{Object}
use Rattle.cg_machine.specs.declared.event.Event.{Event}
use Rattle.cg_machine.specs.declared.event.Event.TheVariants.{BudgetSpent, Enter, Made, Refused}
use Rattle.cg_machine.specs.declared.event.FrameSort.TheVariants.{Callback}
use Rattle.cg_machine.specs.Program.{body_of, classes, commands_of}
use Rattle.cg_machine.specs.World.{World, Activity, TopLevel, Framed, Frame, opening}
use Rattle.cg_machine.specs.Due.{due}
use Rattle.cg_machine.specs.Run.{StepTaken, IsRun, events_of, last_world, world_after}
use Rattle.cg_laws.specs.Laws.{is_enter}

-- One exit finalizer: the number of its procedure, and the numbers of its names, which are those of the object that the procedure
-- asks for, the procedure's function, the function to call, and the weak reference; and the values that the last two are bound
-- to.
pub record Exit : Type 0 where
  pub proc : ℕ
  pub object : ℕ
  pub exit : ℕ
  pub function : ℕ
  pub watch : ℕ
  pub source : Operand
  pub target : Operand

-- its names
abbrev pub names_of : Exit → List ℕ
names_of e = e.object ∷ e.exit ∷ e.function ∷ e.watch ∷ []

-- the procedure: nothing if the object is gone; else it drops the weak reference and calls the function
abbrev pub exit_body : Exit → List Command
exit_body e = Deref e.object (Name e.watch) ∷ Quit (Name e.object) ∷ Del e.watch ∷ Del e.object ∷ Call (Name e.function) ∷ []

-- the last line of the finalizer: it makes the weak reference
abbrev pub watch_command : Exit → Command
watch_command e = MakeRef e.watch e.target (Name e.function)

-- the lines of the finalizer outside the procedure
abbrev pub exit_commands : Exit → List Command
exit_commands e = MakeFunc e.exit e.proc [] ∷ Bind e.function e.source ∷ watch_command e ∷ []

-- none of these is a name of the finalizer
abbrev pub AreOthers : Exit → List ℕ → Type 0
AreOthers e names = (name : ℕ) → Includes names name → ¬ Includes (names_of e) name

-- A command of another line: it uses none of these names, and makes no function of the procedure. A string or an attribute may be
-- spelled like one of them, since it is no name.
pub record IsOther (e : Exit) (command : Command) : Type 0 where
  pub names : AreOthers e (command_names command)
  pub makes : (name : ℕ) (cells : List Operand) → command ≢ MakeFunc name e.proc cells

-- the same for all commands of a list
abbrev pub AllOther : Exit → List Command → Type 0
AllOther e commands = (command : Command) → Includes commands command → IsOther e command

-- A script has an exit finalizer: its lines, once, and the call at the end. No other line refers to it.
pub record IsExit (script : Script) (e : Exit) : Type 0 where
  pub body : body_of script e.proc ≡ exit_body e
  pub front : List Command
  pub middle : List Command
  pub back : List Command
  pub commands : commands_of script.items ≡ front ++ (exit_commands e ++ (middle ++ Call (Name e.exit) ∷ back))
  pub front_other : AllOther e front
  pub middle_other : AllOther e middle
  pub back_other : AllOther e back
  pub bodies_other : (proc : ℕ) → proc ≢ e.proc → AllOther e (body_of script proc)
  pub source_other : AreOthers e (operand_names e.source)
  pub target_other : AreOthers e (operand_names e.target)
  pub classes_other : (class : ClassDef) → Includes (classes script.items) class → (class.del ≢ Some e.proc) × (class.legacy ≢ Some e.proc)
  pub watch_exit : e.watch ≢ e.exit
  pub watch_function : e.watch ≢ e.function
  pub watch_object : e.watch ≢ e.object
  pub exit_function : e.exit ≢ e.function
  pub exit_object : e.exit ≢ e.object
  pub function_object : e.function ≢ e.object

-- the first of some commands
abbrev pub first_of : List Command → Option Command
first_of [] = None
first_of (command ∷ commands) = Some command

-- the next command, if the top activity has one
abbrev pub next_command : List Activity → Option Command
next_command (TopLevel commands ∷ below) = first_of commands
next_command (Framed f ∷ below) = first_of f.commands
next_command stack = None

-- whether a command is `call f`, for a name f
abbrev pub is_call : ℕ → Option Command → Bool
is_call name (Some (Call (Name x))) = x == name
is_call name command = false

-- how many frames begin by `call f` in a run from a world
abbrev pub calls_from : ℕ → World → List StepTaken → ℕ
calls_from name w [] = 0
calls_from name w (step ∷ steps) = (if is_call name (next_command w.stack) then count_by is_enter step.events else 0) + calls_from name step.world steps

-- the callback of a weak reference begins
abbrev pub is_callback_of : ℕ → Event → Bool
is_callback_of weak (Enter Callback n) = n == weak
is_callback_of weak event = false

-- the last line of the finalizer made this weak reference
pub record MakesWatch (script : Script) (budget : ℕ) (steps : List StepTaken) (e : Exit) (weak : ℕ) : Type 0 where
  pub before : List StepTaken
  pub making : StepTaken
  pub after : List StepTaken
  pub is : steps ≡ before ++ making ∷ after
  pub line : next_command (world_after script budget before).stack ≡ Some (watch_command e)
  pub made : Includes making.events (Made Weak weak)

-- At most one frame begins by the procedure's `call f`, and at most one by that and the callback of the weak reference together.
pub record BeginsOnce (script : Script) (budget : ℕ) (steps : List StepTaken) (e : Exit) : Type 0 where
  pub calls : calls_from e.function (opening script budget) steps ≤ 1
  pub together : (weak : ℕ) → MakesWatch script budget steps e weak → count_by (is_callback_of weak) (events_of steps) + calls_from e.function (opening script budget) steps ≤ 1

-- This holds in every run of a fit script.
abbrev pub ExitsBeginOnceIn : (Script → Type 0) → Type 0
ExitsBeginOnceIn Fit = (script : Script) (budget : ℕ) (steps : List StepTaken) → Fit script → IsRun script budget steps → (e : Exit) → IsExit script e → BeginsOnce script budget steps e

-- the same for each script that names only its own texts
abbrev pub ExitsBeginOnce : Type 0
ExitsBeginOnce = ExitsBeginOnceIn TextsAreKnown

-- The exit finalizers of a script, in line order. Its last commands are their calls, last finalizer first, and no other command
-- is one of them.
abbrev pub final_calls : List Exit → List Command
final_calls exits = map (λ e. Call (Name e.exit)) (reverse exits)

pub record AreExits (script : Script) (exits : List Exit) : Type 0 where
  pub each : (e : Exit) → Includes exits e → IsExit script e
  pub lines : List Command
  pub commands : commands_of script.items ≡ lines ++ final_calls exits
  pub others : (command : Command) → Includes lines command → ¬ Includes (final_calls exits) command

-- the script's own command that the next step does, if no collection is due before it
abbrev pub own_command : Option ℕ → List Activity → List Command
own_command None (TopLevel (command ∷ commands) ∷ below) = command ∷ []
own_command d stack = []

-- all of them in a run from a world, in order
abbrev pub own_commands : World → List StepTaken → List Command
own_commands w [] = []
own_commands w (step ∷ steps) = own_command (due w) w.stack ++ own_commands step.world steps

-- A run does the script's own commands in order: those before the calls, and then the calls, last finalizer first.
pub record CallsFall (script : Script) (budget : ℕ) (steps : List StepTaken) (lines : List Command) (exits : List Exit) : Type 0 where
  pub undone : List Command
  pub order : own_commands (opening script budget) steps ++ undone ≡ lines ++ final_calls exits

-- This holds in every run of a fit script.
abbrev pub ExitsAreCalledLastFirstIn : (Script → Type 0) → Type 0
ExitsAreCalledLastFirstIn Fit = (script : Script) (budget : ℕ) (steps : List StepTaken) → Fit script → IsRun script budget steps → (exits : List Exit)
    → (a : AreExits script exits) → CallsFall script budget steps a.lines exits

-- the same for each script that names only its own texts
abbrev pub ExitsAreCalledLastFirst : Type 0
ExitsAreCalledLastFirst = ExitsAreCalledLastFirstIn TextsAreKnown

-- The procedure's frame is about to ask for its object, which lives: the weak reference refers to it.
pub record FindsAlive (e : Exit) (w : World) (frame : Frame) (below : List Activity) : Type 0 where
  pub stack : w.stack ≡ Framed frame ∷ below
  pub commands : frame.commands ≡ exit_body e
  pub no_collection : due w ≡ None
  pub weak : Object
  pub member : Includes w.objects weak
  pub named : slice_get w.names e.watch ≡ Some (Some (Ref weak.serial))
  pub refers : weak.referent ≢ None

-- a command is refused, or the budget is spent
abbrev pub is_refusal : Event → Bool
is_refusal (Refused n) = true
is_refusal BudgetSpent = true
is_refusal event = false

-- no command of a frame on these activities is refused
abbrev pub NoneRefused : List Activity → World → List StepTaken → Type 0
NoneRefused below w [] = Unit {0}
NoneRefused below w (step ∷ steps) = ((frame : Frame) → w.stack ≡ Framed frame ∷ below → count_by is_refusal step.events ≡ 0) × NoneRefused below step.world steps

-- a frame on these activities has commands left
pub record IsUnderway (below stack : List Activity) : Type 0 where
  pub tops : List Activity
  pub frame : Frame
  pub is : stack ≡ tops ++ Framed frame ∷ below
  pub left : frame.commands ≢ []

-- If the procedure finds its object alive and none of its commands is refused, the function's frame begins while the
-- procedure still has commands: in every run of a fit script.
abbrev pub ExitsBeginAliveIn : (Script → Type 0) → Type 0
ExitsBeginAliveIn Fit = (script : Script) (budget : ℕ) (before during : List StepTaken) → Fit script → IsRun script budget (before ++ during) → (e : Exit) → IsExit script e
    → (frame : Frame) (below : List Activity) → FindsAlive e (world_after script budget before) frame below → NoneRefused below (world_after script budget before) during
    → IsUnderway below (last_world (world_after script budget before) during).stack ⊎ (0 < calls_from e.function (world_after script budget before) during)

-- the same for each script that names only its own texts
abbrev pub ExitsBeginAlive : Type 0
ExitsBeginAlive = ExitsBeginAliveIn TextsAreKnown
