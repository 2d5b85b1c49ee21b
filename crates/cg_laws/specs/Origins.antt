-- What a world takes from its script: the remaining commands, the classes of instances and the procedures of functions.
-- So a property of all commands of a script holds of these. (Ours.)
use Rattle.std.specs.Prelude.{◌≡◌, ℕ, List, [], ◌++◌, Some, flat_map}
use Rattle.cg_value.specs.declared.KindCode.TheVariants.{Inst, Func}
use Rattle.cg_script.specs.declared.Script.{Script}
use Rattle.cg_script.specs.declared.Command.{Command}
use Rattle.cg_script.specs.declared.Command.TheVariants.{MakeInst, MakeFunc}
use Rattle.cg_script.specs.declared.Operand.{Operand}
use Rattle.cg_graph.specs.Member.{Includes}
use Rattle.cg_graph.specs.Object.{Object}
use Rattle.cg_machine.specs.Program.{commands_of, procedures}
use Rattle.cg_machine.specs.World.{World, Activity, TopLevel, Framed}
use Rattle.cg_machine.specs.Run.{StepTaken, IsRun, world_after}

-- the commands of a script: those outside procedures, and the bodies of the procedures
abbrev pub all_commands : Script → List Command
all_commands script = commands_of script.items ++ flat_map (λ p. p.body) (procedures script.items)

-- the commands that an activity has left
abbrev pub commands_on : Activity → List Command
commands_on (TopLevel commands) = commands
commands_on (Framed f) = f.commands
commands_on activity = []

-- a command of the script makes instances of a class
abbrev pub MakesInstances : Script → ℕ → Type 0
MakesInstances script class = (name : ℕ) × Includes (all_commands script) (MakeInst name class)

-- a command of the script makes functions of a procedure
abbrev pub MakesFunctions : Script → ℕ → Type 0
MakesFunctions script proc = (name : ℕ) × (cells : List Operand) × Includes (all_commands script) (MakeFunc name proc cells)

-- A command of the script names the class of each instance and the procedure of each function.
pub record IsOfScript (script : Script) (x : Object) : Type 0 where
  pub class : x.code ≡ Inst → (class : ℕ) × (x.class ≡ Some class) × MakesInstances script class
  pub procedure : x.code ≡ Func → (proc : ℕ) × (x.class ≡ Some proc) × MakesFunctions script proc

-- a world whose commands and objects are of the script
pub record HasOrigins (script : Script) (w : World) : Type 0 where
  pub commands : (command : Command) → Includes (flat_map commands_on w.stack) command → Includes (all_commands script) command
  pub objects : (x : Object) → Includes w.objects x → IsOfScript script x

-- This holds in every world of a run.
abbrev pub WorldsHaveOrigins : Type 0
WorldsHaveOrigins = (script : Script) (budget : ℕ) (steps : List StepTaken) → IsRun script budget steps → HasOrigins script (world_after script budget steps)
