-- What becomes of any command. (Ours.)
use Rattle.std.specs.Prelude.{◌≡◌, Bool, true, false, Option, Result, Ok, Err}
use Rattle.cg_script.specs.declared.Command.{Command}
use Rattle.cg_script.specs.declared.Command.TheVariants.{Bind, Del, Append, SetItem, DelItem, Put, Remove, SetAttr, DelAttr, Item, Get, Attr, Deref}
use Rattle.cg_graph.specs.Store.{Store}
use Rattle.cg_machine.specs.World.{World}
use Rattle.cg_machine.specs.Commands.{effect}
use Rattle.cg_policy.specs.Policy.{Policy, with_numbers, with_one_made}
use Rattle.cg_policy.specs.Laws.{policy_of}
use Rattle.cg_commands.specs.declared.done.Done.{Done}
use Rattle.cg_commands.specs.declared.done.Refusal.{Refusal}
use Rattle.cg_commands.specs.declared.locals.Locals.{Locals}
use Rattle.cg_commands.specs.Answers.{Performs}
use Rattle.cg_commands.specs.Controls.{IsControl, Leaves}
use Rattle.cg_commands.specs.Growth.{GrowsBy}
use Rattle.cg_commands.specs.Stands.{HeapAndLocalsStandFor}

-- the commands that change names or entries of existing objects, and print no line
abbrev pub only_changes : Command → Bool
only_changes (Bind name value) = true
only_changes (Del name) = true
only_changes (Append list value) = true
only_changes (SetItem list index value) = true
only_changes (DelItem list index) = true
only_changes (Put dict key value) = true
only_changes (Remove dict key) = true
only_changes (SetAttr object attr value) = true
only_changes (DelAttr object attr) = true
only_changes (Item name list index) = true
only_changes (Get name dict key) = true
only_changes (Attr name object attr) = true
only_changes (Deref name weak) = true
only_changes command = false

-- the policy after it counted an object, if one was made (`gc.set_threshold`)
abbrev pub counted : Result Done Refusal → Policy → Policy
counted (Ok done) policy = with_numbers (with_one_made policy.numbers) policy
counted (Err refusal) policy = policy

-- It is the machine's effect, a command of the collector leaves what it must, and one more object lives only where there is
-- room for it.
pub record Attempts (old : Store) (was : Policy) (locals : Option Locals) (room : Bool) (command : Command) (new : Store) (now : Policy) (answer : Result Done Refusal) : Type 0 where
  pub performs : Performs old was locals (λ w. effect w command) new now answer
  pub leaves : IsControl command → Leaves old was command new now answer
  pub grows : (w : World) → HeapAndLocalsStandFor old locals w → was ≡ policy_of w → GrowsBy room old new
