-- The entries that the operands of a command make. (Ours.)
use Rattle.std.specs.Prelude.{◌≡◌, ℕ, ◌<◌, ◌≤◌, List, Option, map, length}
use Rattle.cg_value.specs.declared.Val.{Val}
use Rattle.cg_value.specs.declared.Entry.{Entry}
use Rattle.cg_script.specs.declared.command.Operand.{Operand}
use Rattle.cg_graph.specs.Holdings.{occurrences}
use Rattle.cg_graph.specs.Value.{item, references}
use Rattle.cg_graph.specs.Store.{Store, IsLive}
use Rattle.cg_machine.specs.Operands.{values}
use Rattle.cg_machine.specs.Effects.{callback_entries}
use Rattle.cg_commands.specs.declared.locals.Locals.{Locals}
use Rattle.cg_commands.specs.Stands.{Reads}

-- the objects in them live
abbrev pub AreLive : Store → List Entry → Type 0
AreLive store parts = (s : ℕ) → 0 < occurrences s (references parts) → IsLive store s

-- The operands have values, in every world that the heap and the locals represent, and these are their items.
pub record Gathers (store : Store) (locals : Option Locals) (operands : List Operand) (parts : List Entry) : Type 0 where
  pub vals : List Val
  pub reads : Reads store locals (λ w. values w operands) vals
  pub items : parts ≡ map item vals
  pub counted : length parts ≡ length operands
  pub live : AreLive store parts

-- The value is a callback or none, and these are the entries of a weak reference with it.
pub record IsCallback (store : Store) (locals : Option Locals) (callback : Val) (parts : List Entry) : Type 0 where
  pub vals : List Val
  pub reads : Reads store locals (λ w. callback_entries w callback) parts
  pub items : parts ≡ map item vals
  pub single : length parts ≤ 1
  pub live : AreLive store parts
