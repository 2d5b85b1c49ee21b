-- Steps and runs of the machine. Only the top activity steps. (Ours. Automatic collections start only between two
-- commands, as CPython's evaluation loop checks for them.)
use Rattle.std.specs.Prelude.{◌≡◌, ◌≢◌, ℕ, List, [], ◌∷◌, ◌++◌, false, Option, Some, None}
use Rattle.cg_script.specs.declared.Script.{Script}
use Rattle.cg_script.specs.declared.Command.{Command}
use Rattle.cg_machine.specs.declared.event.Event.{Event}
use Rattle.cg_machine.specs.Program.{declares_shutdown}
use Rattle.cg_machine.specs.World.{World, Activity, TopLevel, Framed, Releasing, Dying, Collecting, ShuttingDown, Frame, Outcome, Running, opening, push, with_stack}
use Rattle.cg_machine.specs.Frame.{Yields, frame_end, ReleaseStep}
use Rattle.cg_machine.specs.Dying.{DyingStep}
use Rattle.cg_machine.specs.Collect.{CollectStep}
use Rattle.cg_machine.specs.Commands.{CommandStep, new_collection}
use Rattle.cg_machine.specs.Due.{due}
use Rattle.cg_machine.specs.Shutdown.{greatest_bound, shut_down, after_commands}

-- Before each command, and before the end or the shutdown, a due collection starts instead.
abbrev pub TopLevelStep : Script → World → Option ℕ → List Command → List Activity → List Event → World → Type 0
TopLevelStep script w (Some g) commands below events after = Yields ([], push (new_collection g false w) w) events after
TopLevelStep script w None [] below events after = Yields (after_commands (declares_shutdown script.items) below w) events after
TopLevelStep script w None (command ∷ commands) below events after = CommandStep script (with_stack (TopLevel commands ∷ below) w) command events after

-- the next command of a frame, or a due collection
abbrev pub CommandInFrame : Script → World → Option ℕ → Frame → Command → List Command → List Activity → List Event → World → Type 0
CommandInFrame script w (Some g) f command commands below events after = Yields ([], push (new_collection g false w) w) events after
CommandInFrame script w None f command commands below events after = CommandStep script (with_stack (Framed (record f { commands = commands }) ∷ below) w) command events after

-- a frame without commands left ends; no collection starts before that
abbrev pub FrameStep : Script → World → Frame → List Command → List Activity → List Event → World → Type 0
FrameStep script w f [] below events after = Yields (frame_end f (with_stack below w)) events after
FrameStep script w f (command ∷ commands) below events after = CommandInFrame script w (due w) f command commands below events after

-- only the top activity steps
abbrev pub StepOf : Script → World → List Activity → List Event → World → Type 0
StepOf script w [] events after = ⊥
StepOf script w (TopLevel commands ∷ below) events after = TopLevelStep script w (due w) commands below events after
StepOf script w (Framed f ∷ below) events after = FrameStep script w f f.commands below events after
StepOf script w (Releasing references ∷ below) events after = ReleaseStep w references below events after
StepOf script w (Dying d ∷ below) events after = DyingStep script w d below events after
StepOf script w (Collecting c ∷ below) events after = CollectStep script w c below events after
StepOf script w (ShuttingDown started ∷ below) events after = Yields (shut_down started (greatest_bound w) below w) events after

-- a world that has ended has no step
pub record Step (script : Script) (w : World) (events : List Event) (after : World) : Type 0 where
  pub running : w.outcome ≡ Running
  pub step : StepOf script w w.stack events after

-- a step that was taken: what it printed, and the world that it left
pub record StepTaken : Type 0 where
  pub events : List Event
  pub world : World

-- a run from a world: each step goes on from the world that the previous one left
abbrev pub Run : Script → World → List StepTaken → Type 0
Run script w [] = Unit {0}
Run script w (step ∷ steps) = Step script w step.events step.world × Run script step.world steps

-- the world that a run leaves, and what it printed
abbrev pub last_world : World → List StepTaken → World
last_world w [] = w
last_world w (step ∷ steps) = last_world step.world steps

-- the events of a run, in order
abbrev pub events_of : List StepTaken → List Event
events_of [] = []
events_of (step ∷ steps) = step.events ++ events_of steps

-- a run of a script with a budget; then the world that it leaves, how that ended, and whole runs
abbrev pub IsRun : Script → ℕ → List StepTaken → Type 0
IsRun script budget steps = Run script (opening script budget) steps

-- the world that a run of a script leaves
abbrev pub world_after : Script → ℕ → List StepTaken → World
world_after script budget steps = last_world (opening script budget) steps

-- whether it runs, or how it ended
abbrev pub outcome_of : Script → ℕ → List StepTaken → Outcome
outcome_of script budget steps = (world_after script budget steps).outcome

-- a whole run that ends in this way
pub record IsWholeRun (script : Script) (budget : ℕ) (outcome : Outcome) (steps : List StepTaken) : Type 0 where
  pub run : IsRun script budget steps
  pub whole : outcome ≢ Running
  pub ends : outcome_of script budget steps ≡ outcome
