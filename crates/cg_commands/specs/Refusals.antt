-- Refusals by the numbers of the machine, and what a refusal means. (Ours.)
use Rattle.std.specs.Prelude.{◌≡◌, ℕ, Result, Err}
use Rattle.cg_machine.specs.Refusals.{no_name, wrong_kind, no_index, no_key, no_attribute, not_weak, not_callable, bad_generation, unhashable, no_memory, object_limit, entry_limit, in_collection}
use Rattle.cg_heap.specs.declared.fault.HeapFault.{HeapFault}
use Rattle.cg_heap.specs.declared.fault.HeapFault.TheVariants as fault
use Rattle.cg_commands.specs.declared.done.Refusal.{Refusal}
use Rattle.cg_commands.specs.declared.done.Refusal.TheVariants.{NoName, WrongKind, NoIndex, NoKey, NoAttribute, NotWeak, NotCallable, BadGeneration, Unhashable, OutOfMemory, ObjectLimit, EntryLimit, InCollection}

-- the number of each refusal
abbrev pub number_of : Refusal → ℕ
number_of NoName = no_name
number_of WrongKind = wrong_kind
number_of NoIndex = no_index
number_of NoKey = no_key
number_of NoAttribute = no_attribute
number_of NotWeak = not_weak
number_of NotCallable = not_callable
number_of BadGeneration = bad_generation
number_of Unhashable = unhashable
number_of OutOfMemory = no_memory
number_of ObjectLimit = object_limit
number_of EntryLimit = entry_limit
number_of InCollection = in_collection

-- the refusal for a fault of the heap
abbrev pub refusal_by : HeapFault → Refusal
refusal_by fault.ObjectLimit = ObjectLimit
refusal_by fault.EntryLimit = EntryLimit
refusal_by fault.OutOfMemory = OutOfMemory

-- The machine gives this refusal. It never refuses for memory; no rule says when memory runs out.
abbrev pub Declines : {A : Type 0} → Refusal → Result A ℕ → Type 0
Declines OutOfMemory r = ⊥
Declines refusal r = r ≡ Err (number_of refusal)
