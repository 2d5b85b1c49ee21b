-- What the commands of the collector leave alone, in any world. (Ours; the generations of `gc.collect`.)
use Rattle.std.specs.Prelude.{◌≡◌, ℕ, ◌≤◌, ℤ, [], Some, None, Result, Ok, Err}
use Rattle.cg_value.specs.declared.Entry.{Entry}
use Rattle.cg_script.specs.declared.Command.{Command}
use Rattle.cg_script.specs.declared.Command.TheVariants.{Collect}
use Rattle.cg_script.specs.Spelled.{IsForObjects}
use Rattle.cg_graph.specs.Store.{Store}
use Rattle.cg_graph.specs.Value.{entry_references}
use Rattle.cg_machine.specs.World.{World}
use Rattle.cg_machine.specs.Effects.{Effect, Changes, valid_index}
use Rattle.cg_machine.specs.Commands.{effect}
use Rattle.cg_policy.specs.Policy.{Policy}
use Rattle.cg_commands.specs.declared.done.Done.{Done}
use Rattle.cg_commands.specs.declared.done.Done.TheVariants.{Changed, Collects}
use Rattle.cg_commands.specs.declared.done.Refusal.{Refusal}
use Rattle.cg_commands.specs.declared.done.Refusal.TheVariants.{BadGeneration}
use Rattle.cg_commands.specs.Places.{KeepsAllButPlaces}

-- a command of the collector
abbrev pub IsControl : Command → Type 0
IsControl command = IsForObjects command → ⊥

-- The number asks for a collection of this generation, 0 to 2, or is none of these and is refused. (`gc.collect`.)
abbrev pub IsAsked : ℤ → Result Done Refusal → Type 0
IsAsked number (Ok (Collects generation)) = (valid_index number 3 ≡ Some generation) × (generation ≤ 2)
IsAsked number (Err BadGeneration) = valid_index number 3 ≡ None
IsAsked number answer = ⊥

-- the command is a `collect` with this generation, and nothing has changed
pub record HasAsked (old : Store) (was : Policy) (command : Command) (new : Store) (now : Policy) (answer : Result Done Refusal) : Type 0 where
  pub number : ℤ
  pub is : command ≡ Collect number
  pub asked : IsAsked number answer
  pub store : new ≡ old
  pub policy : now ≡ was

-- an effect that changes only objects and numbers
abbrev pub IsOfObjectsAndNumbers : World → Result Effect ℕ → Type 0
IsOfObjectsAndNumbers w (Ok (Changes wants_memory lines given_up after)) = after ≡ record w { objects = after.objects; numbers = after.numbers }
IsOfObjectsAndNumbers w effect = Unit {0}

-- Only places and numbers change, in the heap and in each world. The stack, with a collection under way, is the same.
-- Nothing is given up.
pub record ChangesPlaces (old : Store) (command : Command) (given_up : Entry) (new : Store) : Type 0 where
  pub heap : KeepsAllButPlaces old new
  pub world : (w : World) → IsOfObjectsAndNumbers w (effect w command)
  pub nothing : entry_references given_up ≡ []

-- A change is one of places and numbers only; any other answer is that of a `collect`, and has changed nothing.
abbrev pub Leaves : Store → Policy → Command → Store → Policy → Result Done Refusal → Type 0
Leaves old was command new now (Ok (Changed line given_up)) = ChangesPlaces old command given_up new
Leaves old was command new now answer = HasAsked old was command new now answer
