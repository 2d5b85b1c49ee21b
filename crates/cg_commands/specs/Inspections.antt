-- What the inspection commands require first, and the lines of those that list objects. (Ours; `gc.get_referents`,
-- `gc.get_referrers`.)
use Rattle.std.specs.Prelude.{◌≡◌, ℕ, Bool, false, not, Option, Some, Result, Ok}
use Rattle.std.specs.FinMap as fin
use Rattle.cg_graph.specs.Object.{Object}
use Rattle.cg_graph.specs.Store.{Store, Node, object_from}
use Rattle.cg_script.specs.declared.command.Operand.{Operand}
use Rattle.cg_machine.specs.declared.event.Event.{Event}
use Rattle.cg_machine.specs.declared.event.Event.TheVariants.{Referent, Referrer}
use Rattle.cg_machine.specs.World.{World}
use Rattle.cg_machine.specs.Holdings.{is_collecting}
use Rattle.cg_machine.specs.Effects.{Effect}
use Rattle.cg_machine.specs.Operands.{value, object, any_object}
use Rattle.cg_machine.specs.Refusals.{in_collection, unless, wrong_kind, ◌>>=◌}
use Rattle.cg_commands.specs.declared.done.Done.{Done}
use Rattle.cg_commands.specs.declared.done.Refusal.{Refusal}
use Rattle.cg_commands.specs.declared.inspections.Listed.{Listed}
use Rattle.cg_commands.specs.declared.inspections.Listed.TheVariants.{Referents, Referrers}
use Rattle.cg_commands.specs.declared.locals.Locals.{Locals}
use Rattle.cg_commands.specs.Refusals.{Declines}
use Rattle.cg_commands.specs.Stands.{HeapAndLocalsStandFor}
use Rattle.cg_commands.specs.Answers.{AnswersOnHeap}

-- The answer is the machine's, and the heap stays, in every world that the heap and the locals represent and in which a
-- collection is under way or not, as this says.
abbrev pub Inspects : Store → Bool → Option Locals → (World → Result Effect ℕ) → Result Done Refusal → Type 0
Inspects store running locals effect answer = (w : World) → HeapAndLocalsStandFor store locals w → is_collecting w ≡ running → AnswersOnHeap answer (effect w) store store

-- the object that the machine inspects, or its refusal
abbrev pub inspected : World → Operand → Result Object ℕ
inspected w operand = do
  v ← value w operand
  x ← object w any_object wrong_kind v
  _ ← unless (not (is_collecting w)) in_collection
  Ok x

-- In each such world the machine inspects this live object: no collection is under way.
pub record IsInspected (store : Store) (running : Bool) (locals : Option Locals) (operand : Operand) (o : ℕ) : Type 0 where
  pub node : Node
  pub found : fin.get store.nodes o ≡ Some node
  pub calm : running ≡ false
  pub is : (w : World) → HeapAndLocalsStandFor store locals w → is_collecting w ≡ running → inspected w operand ≡ Ok (object_from store.rows o node)

-- in each such world the machine gives this refusal
abbrev pub IsNotInspected : Store → Bool → Option Locals → Operand → Refusal → Type 0
IsNotInspected store running locals operand refusal = (w : World) → HeapAndLocalsStandFor store locals w → is_collecting w ≡ running → Declines refusal (inspected w operand)

-- the line of an object in a list
abbrev pub line_of : Listed → ℕ → Event
line_of Referents o = Referent o
line_of Referrers o = Referrer o
