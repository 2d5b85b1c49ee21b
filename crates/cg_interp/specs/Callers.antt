-- The activities with commands, and what a command leaves. (Ours.)
use Rattle.std.specs.Prelude.{◌≡◌, ◌<◌, ℕ, true, false, ◌⊎◌, List, [], ◌∷◌, ◌++◌, Option, None, Some, Result, option_to_list}
use Rattle.cg_value.specs.declared.Entry.{Entry}
use Rattle.cg_script.specs.declared.Script.{Script}
use Rattle.cg_graph.specs.Value.{entry_references}
use Rattle.cg_machine.specs.declared.event.Event.{Event}
use Rattle.cg_machine.specs.Program.{body_of, commands_of}
use Rattle.cg_machine.specs.World.{World, Releasing, Running, push}
use Rattle.cg_machine.specs.Frame.{Transition, procedure_of}
use Rattle.cg_machine.specs.Commands.{CommandStep, new_collection, effect}
use Rattle.cg_policy.specs.Policy.{Policy}
use Rattle.cg_heap.specs.Calls.{HasFewHolds}
use Rattle.cg_graph.specs.Store.{Store}
use Rattle.cg_commands.specs.declared.done.Done.{Done}
use Rattle.cg_commands.specs.declared.done.Refusal.{Refusal}
use Rattle.cg_commands.specs.Answers.{CommandAnswers}
use Rattle.cg_machine.specs.declared.event.FrameSpec.{FrameSpec}
use Rattle.cg_machine.specs.declared.event.FrameSort.TheVariants.{Call}
use Rattle.cg_script.specs.declared.Command.{Command}
use Rattle.cg_graph.specs.Member.{Includes}
use Rattle.cg_script.specs.Spelled.{IsSpelledCommand}
use Rattle.cg_interp.specs.declared.turned.Turned.{Turned}
use Rattle.cg_interp.specs.declared.turned.Turned.TheVariants as turned
use Rattle.cg_interp.specs.Turns.{Makes}
use Rattle.cg_laws.specs.Kept.{StaysKept}
use Rattle.cg_interp.specs.Collecting.{StandsWith}
use Rattle.cg_represents.specs.Represents.{Represents}
use Rattle.cg_interp.specs.declared.activity.Activity.{Activity}
use Rattle.cg_interp.specs.declared.activity.Activity.TheVariants as activity
use Rattle.cg_interp.specs.declared.caller.Caller.{Caller}
use Rattle.cg_interp.specs.declared.caller.Runner.{Runner}
use Rattle.cg_interp.specs.declared.caller.Runner.TheVariants as runner_is
use Rattle.cg_commands.specs.declared.locals.Locals.{Locals}
use Rattle.cg_commands.specs.Stands.{HasLocals}
use Rattle.cg_inspect.specs.Inspection.{IsIdle}
use Rattle.cg_collect.specs.Numbers.{AreSmall}
use Rattle.cg_interp.specs.Telling.{TurnsFrom}
use Rattle.cg_interp.specs.Quietly.{ComesTo, ComesFrom, TellsBy}
use Rattle.cg_interp.specs.Engines.{State, StandsFor, ShowsAll, under, any_collecting, commands_from}

-- the activity that the script is, or a frame, with its next command
abbrev pub activity_at : Runner → Option ℕ → Activity
activity_at runner_is.Script next = activity.Script next
activity_at (runner_is.Frame locals procedure) next = activity.Frame locals procedure next

-- the locals of a frame
abbrev pub locals_in : Runner → Option Locals
locals_in runner_is.Script = None
locals_in (runner_is.Frame locals procedure) = Some locals

-- the commands of the script, or of a frame's procedure
abbrev pub commands_in : Script → Runner → List Command
commands_in script runner_is.Script = commands_of script.items
commands_in script (runner_is.Frame locals procedure) = body_of script procedure

-- the same, of a caller
abbrev pub caller_activity : Caller → Activity
caller_activity caller = activity_at caller.runner caller.next

abbrev pub caller_locals : Caller → Option Locals
caller_locals caller = locals_in caller.runner

-- the remaining commands of a caller
abbrev pub commands_left : Script → Caller → List Command
commands_left script caller = commands_from caller.next (commands_in script caller.runner)

-- the same caller with another next command, or with none
abbrev pub with_next : Option ℕ → Caller → Caller
with_next next caller = record { runner = caller.runner; next = next }

-- the script, or a frame, with its next command
abbrev pub script_caller : Option ℕ → Caller
script_caller next = record { runner = runner_is.Script; next = next }

abbrev pub frame_caller : Locals → ℕ → Option ℕ → Caller
frame_caller locals procedure next = record { runner = runner_is.Frame locals procedure; next = next }

-- what is left after a stop: of a frame nothing
abbrev pub left_when_stopped : Runner → Option ℕ → Option ℕ
left_when_stopped runner_is.Script next = next
left_when_stopped (runner_is.Frame locals procedure) next = None

-- the same caller without commands, if it is a frame
abbrev pub without_rest_in_frame : Caller → Caller
without_rest_in_frame caller = with_next (left_when_stopped caller.runner caller.next) caller

-- What a command may assume: few references are held from outside, few objects were made, a collection's places are empty if
-- none is under way, and there is room for a caller, a release and a death.
pub record MayCommand (e : State) : Type 0 where
  pub few : HasFewHolds e.store
  pub last : e.store.last < 9223372036854775808
  pub small : AreSmall e.policy.numbers
  pub idle : e.policy.running ≡ false → IsIdle e.store
  pub room : 2 < e.room

-- A command left this world: the heap represents it with the release of what was given up on top, the policy has its numbers,
-- and the activities represent the rest of its stack.
pub record Changes (script : Script) (top : Activity) (e : State) (given_up : Entry) (after : World) : Type 0 where
  pub represents : Represents e.store (push (Releasing (entry_references given_up)) after)
  pub shows : ShowsAll script (top ∷ e.activities) after.stack
  pub budget : after.budget ≡ e.budget
  pub running : after.outcome ≡ Running
  pub numbers : e.policy.numbers ≡ after.numbers
  pub collecting : e.policy.running ≡ any_collecting (top ∷ e.activities)

-- with that release
abbrev pub releasing : Entry → World → World
releasing given_up after = push (Releasing (entry_references given_up)) after

-- its lines, and that world
abbrev pub transition_of_change : List Event → Entry → World → Transition
transition_of_change lines given_up after = (lines, releasing given_up after)

-- the frame of a call
abbrev pub call_of : ℕ → World → FrameSpec
call_of f w = record { sort = Call; proc = procedure_of w f; subject = f; func = Some f }

-- A command was done: the machine may make this transition, and the engine did.
pub record Does (script : Script) (w : World) (command : Command) (e : State) (answer : Turned) : Type 0 where
  pub transition : Transition
  pub may : CommandStep script w command transition.0 transition.1
  pub makes : Makes script transition e answer

-- A command asked for a collection, which has begun: the machine made the command's step, without a line.
pub record StartsCollection (script : Script) (w : World) (command : Command) (e : State) (answer : Turned) : Type 0 where
  pub generation : ℕ
  pub may : CommandStep script w command [] (push (new_collection generation true w) w)
  pub quiet : answer ≡ turned.Quiet
  pub stands : StandsWith script e [] (push (new_collection generation true w) w)

-- the answer of a turn with this line, or without one
abbrev pub told : Option Event → Turned
told None = turned.Quiet
told (Some event) = turned.Line event

-- A command was done, and what it gives up was given up: the machine made its step, with these lines, and then went on
-- quietly.
pub record ChangesOn (script : Script) (w : World) (command : Command) (lines : List Event) (e : State) : Type 0 where
  pub changed : World
  pub may : CommandStep script w command lines changed
  pub comes : ComesTo script changed e

-- the same with at most one line
pub record TellsChange (script : Script) (w : World) (command : Command) (e : State) (answer : Turned) : Type 0 where
  pub line : Option Event
  pub is : answer ≡ told line
  pub changes : ChangesOn script w command (option_to_list line) e

-- what is done for any command
abbrev pub DoesAny : Script → World → Command → State → Turned → Type 0
DoesAny script w command e answer = Does script w command e answer ⊎ (StartsCollection script w command e answer ⊎ TellsChange script w command e answer)

-- The result of a command: after `None` it printed these lines and its caller goes on; else the turn is over.
abbrev pub RunsTo : Script → World → Command → Activity → State → List Event → Option Turned → Type 0
RunsTo script w command top e lines None = ChangesOn script w command lines (under top e)
RunsTo script w command top e lines (Some answer) = DoesAny script w command e answer

-- the same where lines wait to be printed: its lines now wait after them
abbrev pub TellsTo : Script → World → Command → Activity → State → List Event → List Event → Option Turned → Type 0
TellsTo script w command top e waits now None = (lines : List Event) × (now ≡ waits ++ lines) × ChangesOn script w command lines (under top e)
TellsTo script w command top e waits now (Some answer) = DoesAny script w command e answer

-- A line, if any, was told: after `None` it waits after the others, and its caller goes on.
abbrev pub Tells : Script → World → Activity → State → Option Event → List Event → List Event → Option Turned → Type 0
Tells script w top e line waits now None = (now ≡ waits ++ option_to_list line) × ComesTo script w (under top e)
Tells script w top e line waits now (Some answer) = (answer ≡ told line) × ComesTo script w e

-- What was given up after a change, with this line or none: after `None` its caller goes on.
abbrev pub GivesUp : Script → World → Activity → State → Option Event → Option Turned → Type 0
GivesUp script w top e line None = ComesTo script w (under top e)
GivesUp script w top e line (Some answer) = (answer ≡ told line) × ComesTo script w e

-- Each world after a command is kept.
abbrev pub StaysKeptAfter : Script → ℕ → World → Command → Type 0
StaysKeptAfter script budget w command = (events : List Event) (after : World) → CommandStep script w command events after → StaysKept script budget after

-- A caller has advanced past this command, which is to be done: the engine represents the world without it.
pub record IsAtCommand (script : Script) (caller : Caller) (e : State) (w : World) (command : Command) : Type 0 where
  pub stands : StandsFor script (under (caller_activity caller) e) w
  pub locals : HasLocals (caller_locals caller) w
  pub kept : StaysKeptAfter script e.first_budget w command

-- A command was done in this world, which the engine represented with the old heap and policy.
pub record IsPerformed (script : Script) (top : Activity) (e : State) (w : World) (command : Command) (before : Store) (was : Policy) (answer : Result Done Refusal) : Type 0 where
  pub stood : StandsFor script (under top (record e { store = before; policy = was })) w
  pub answers : CommandAnswers answer (effect w command) before was e.store e.policy
  pub kept : StaysKeptAfter script e.first_budget w command

-- in some world, where the heap had few holds
pub record HasPerformed (script : Script) (top : Activity) (e : State) (answer : Result Done Refusal) : Type 0 where
  pub world : World
  pub command : Command
  pub before : Store
  pub was : Policy
  pub few : HasFewHolds before
  pub performed : IsPerformed script top e world command before was answer

-- It is this command's turn, with this number: the caller has advanced past it.
abbrev pub ComesNext : Script → Caller → Option ℕ → Command → Type 0
ComesNext script caller next command = commands_left script (with_next next caller) ≡ command ∷ commands_left script caller

-- the result of the command with this number, which a caller has advanced past; the caller at that command was on top
abbrev pub StepsFrom : Script → Caller → Option ℕ → State → State → Option Turned → Type 0
StepsFrom script caller next old new None = ComesFrom script (caller_activity (with_next next caller)) old (caller_activity caller) new
StepsFrom script caller next old new (Some answer) = TurnsFrom script (caller_activity (with_next next caller)) old new answer

-- the same where lines wait to be printed: those told now wait after them
abbrev pub StepsOn : Script → Caller → Option ℕ → State → State → List Event → List Event → Option Turned → Type 0
StepsOn script caller next old new waits now None = TellsBy script waits now (caller_activity (with_next next caller)) old (caller_activity caller) new
StepsOn script caller next old new waits now (Some answer) = TurnsFrom script (caller_activity (with_next next caller)) old new answer

-- Each of these commands is well formed in a script with this number of texts.
abbrev pub AreDoable : ℕ → List Command → Type 0
AreDoable names commands = (c : Command) → Includes commands c → IsSpelledCommand names c
