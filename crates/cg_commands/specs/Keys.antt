-- Entries under keys of dictionaries and instances. (Ours.)
use Rattle.std.specs.Prelude.{ℕ, Bool, Result, ok_or}
use Rattle.cg_value.specs.declared.Val.{Val}
use Rattle.cg_value.specs.declared.KindCode.{KindCode}
use Rattle.cg_value.specs.declared.KindCode.TheVariants as code
use Rattle.cg_graph.specs.Value.{entry_references, value_at, entry_at, without_key}
use Rattle.cg_graph.specs.Object.{Object}
use Rattle.cg_machine.specs.World.{World}
use Rattle.cg_machine.specs.Effects.{Effect, binds, puts, sets_entries}
use Rattle.cg_machine.specs.Refusals.{wrong_kind, ◌>>=◌}
use Rattle.cg_machine.specs.Operands.{object, is_dict}
use Rattle.cg_machine.specs.Weak.{is_instance}
use Rattle.cg_commands.specs.declared.done.Refusal.{Refusal}
use Rattle.cg_commands.specs.declared.done.Refusal.TheVariants.{NoKey, NoAttribute}
use Rattle.cg_commands.specs.declared.keys.Keyed.{Keyed}
use Rattle.cg_commands.specs.declared.keys.Keyed.TheVariants.{Dict, Inst}
use Rattle.cg_commands.specs.Refusals.{number_of}

-- the kind
abbrev pub kind_of : Keyed → KindCode
kind_of Dict = code.Dict
kind_of Inst = code.Inst

-- the machine's test of it
abbrev pub is_of : Keyed → Object → Bool
is_of Dict = is_dict
is_of Inst = is_instance

-- why a missing key is refused
abbrev pub missing_in : Keyed → Refusal
missing_in Dict = NoKey
missing_in Inst = NoAttribute

-- a name is bound to the value under a key of the object that a value refers to
abbrev pub binds_under : World → ℕ → Keyed → Val → Val → Result Effect ℕ
binds_under w name kind holder key = do
  x ← object w (is_of kind) wrong_kind holder
  v ← ok_or (value_at x.entries key) (number_of (missing_in kind))
  binds w name v

-- the entry under a key is removed
abbrev pub takes_under : World → Keyed → Val → Val → Result Effect ℕ
takes_under w kind holder key = do
  x ← object w (is_of kind) wrong_kind holder
  e ← ok_or (entry_at x.entries key) (number_of (missing_in kind))
  sets_entries w x (without_key x.entries key) (entry_references e)

-- a key gets a value
abbrev pub puts_under : World → Keyed → Val → Val → Val → Result Effect ℕ
puts_under w kind holder key v = do
  x ← object w (is_of kind) wrong_kind holder
  puts w x key v
