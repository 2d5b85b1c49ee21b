-- What each command does, or the first refusal that applies. One clause for each command. (Ours, after what Python
-- does: docs/SCRIPT.md has the table.)
use Rattle.std.specs.Prelude.{◌≡◌, ℕ, Bool, true, false, not, List, [], ◌∷◌, ◌++◌, Some, None, Result, Ok, Err, if◌then◌else◌, unwrap_or, ok_or, map, length, slice_get, slice_set, remove, ◌⊎◌}
use Rattle.cg_value.specs.declared.Val.TheVariants.{None as Nothing, Str, Ref}
use Rattle.cg_value.specs.declared.KindCode.TheVariants.{List as ListKind, Tuple, Dict, Inst, Func, Weak}
use Rattle.cg_script.specs.declared.Script.{Script}
use Rattle.cg_script.specs.declared.Operand.TheVariants.{Name}
use Rattle.cg_script.specs.declared.Command.{Command}
use Rattle.cg_script.specs.declared.Command.TheVariants.{MakeList, MakeTuple, MakeDict, MakeInst, MakeFunc, MakeRef, Bind, Del, Append, SetItem, DelItem, Put, Remove, SetAttr, DelAttr, Item, Get, Attr, Deref, Call, Quit, Collect, Enable, Disable, Threshold, Flags, Freeze, Unfreeze, Print, Refs, Tracked, Finalized, Referents, Referrers, Why, Count, Gens}
use Rattle.cg_graph.specs.Value.{entry_references, references, item, value_at, without_key, entry_at}
use Rattle.cg_graph.specs.Object.{with_entries, is_tracked}
use Rattle.cg_graph.specs.Holdings.{graph_of}
use Rattle.cg_graph.specs.Reach.{edges}
use Rattle.cg_graph.specs.Path.{IsHeldElse, IsShortestPath, HasNoPath}
use Rattle.cg_machine.specs.declared.event.Event.{Event}
use Rattle.cg_machine.specs.declared.event.Event.TheVariants.{Value, RefCount, Tracked as TrackedLine, Finalized as FinalizedLine, Referent, Referrer, Held, Via, Unreachable, Count as CountLine, Refused, Collected}
use Rattle.cg_machine.specs.declared.event.FrameSort.TheVariants.{Call as CallFrame}
use Rattle.cg_machine.specs.World.{World, Activity, TopLevel, Framed, Releasing, Collecting, Start, push, with_stack, with_change}
use Rattle.cg_machine.specs.Holdings.{in_degree, is_collecting, other_holdings}
use Rattle.cg_machine.specs.Frame.{procedure_of, Transition, Yields, start_frame}
use Rattle.cg_machine.specs.Refusals.{bad_generation, in_collection, no_attribute, no_index, no_key, no_memory, not_callable, not_weak, unhashable, wrong_kind, unless, ◌>>=◌}
use Rattle.cg_machine.specs.Operands.{any_object, is_dict, is_list, is_script_list, is_sequence, is_weak, object, object_of, value}
use Rattle.cg_machine.specs.Effects.{Calls, Changes, Collects, Effect, Explains, Quits, binds, bound, callback_entries, frozen, gens_line, given_up_by, has_room, is_hashable, lists, makes, makes_of, valid_index, prints, puts, referrers, replaced, sets_entries, sets_numbers, unfrozen}
use Rattle.cg_machine.specs.Weak.{has_weak_references, is_function, is_instance}

-- the effect of a command in a world that keeps the commands after it
abbrev pub effect : World → Command → Result Effect ℕ
effect w (MakeList name items) = makes_of w name ListKind None items
effect w (MakeTuple name items) = makes_of w name Tuple None items
effect w (MakeDict name) = makes w name Dict None [] None
effect w (MakeInst name class) = makes w name Inst (Some class) [] None
effect w (MakeFunc name proc cells) = makes_of w name Func (Some proc) cells
effect w (MakeRef name target callback) = do
  v ← value w target
  f ← value w callback
  x ← object w has_weak_references wrong_kind v
  entries ← callback_entries w f
  makes w name Weak None entries (Some x.serial)
effect w (Bind name operand) = do
  v ← value w operand
  binds w name v
effect w (Del name) = do
  v ← value w (Name name)
  Ok (Changes false [] (given_up_by w name) (bound w name None))
effect w (Append list operand) = do
  l ← value w list
  v ← value w operand
  x ← object w is_script_list wrong_kind l
  _ ← has_room w 1
  Ok (Changes true [] [] (with_change (with_entries (x.entries ++ item v ∷ [])) x.serial w))
effect w (SetItem list index operand) = do
  l ← value w list
  v ← value w operand
  x ← object w is_script_list wrong_kind l
  i ← ok_or (valid_index index (length x.entries)) no_index
  e ← ok_or (slice_get x.entries i) no_index
  sets_entries w x (slice_set x.entries i (item v)) (entry_references e)
effect w (DelItem list index) = do
  l ← value w list
  x ← object w is_list wrong_kind l
  i ← ok_or (valid_index index (length x.entries)) no_index
  e ← ok_or (slice_get x.entries i) no_index
  sets_entries w x (remove x.entries i) (entry_references e)
effect w (Put dict key operand) = do
  d ← value w dict
  k ← value w key
  v ← value w operand
  x ← object w is_dict wrong_kind d
  _ ← unless (is_hashable w k) unhashable
  puts w x k v
effect w (Remove dict key) = do
  d ← value w dict
  k ← value w key
  x ← object w is_dict wrong_kind d
  _ ← unless (is_hashable w k) unhashable
  e ← ok_or (entry_at x.entries k) no_key
  sets_entries w x (without_key x.entries k) (entry_references e)
effect w (SetAttr instance name operand) = do
  o ← value w instance
  v ← value w operand
  x ← object w is_instance wrong_kind o
  puts w x (Str name) v
effect w (DelAttr instance name) = do
  o ← value w instance
  x ← object w is_instance wrong_kind o
  e ← ok_or (entry_at x.entries (Str name)) no_attribute
  sets_entries w x (without_key x.entries (Str name)) (entry_references e)
effect w (Item name list index) = do
  l ← value w list
  x ← object w is_sequence wrong_kind l
  i ← ok_or (valid_index index (length x.entries)) no_index
  e ← ok_or (slice_get x.entries i) no_index
  binds w name e.val
effect w (Get name dict key) = do
  d ← value w dict
  k ← value w key
  x ← object w is_dict wrong_kind d
  _ ← unless (is_hashable w k) unhashable
  v ← ok_or (value_at x.entries k) no_key
  binds w name v
effect w (Attr name instance attribute) = do
  o ← value w instance
  x ← object w is_instance wrong_kind o
  v ← ok_or (value_at x.entries (Str attribute)) no_attribute
  binds w name v
effect w (Deref name weak) = do
  v ← value w weak
  x ← object w is_weak not_weak v
  binds w name (elim x.referent [ None ↦ Nothing | Some o ↦ Ref o ])
effect w (Call function) = do
  v ← value w function
  x ← object w is_function not_callable v
  Ok (Calls x.serial)
effect w (Quit operand) = do
  v ← value w operand
  Ok (elim v [ Nothing ↦ Quits | _ ↦ Changes false [] [] w ])
effect w (Collect generation) = do
  g ← ok_or (valid_index generation 3) bad_generation
  Ok (Collects g)
effect w Enable = sets_numbers w (record w.numbers { enabled = true })
effect w Disable = sets_numbers w (record w.numbers { enabled = false })
effect w (Threshold zero one two) = sets_numbers w (record w.numbers {
  zero_threshold = zero;
  one_threshold = unwrap_or one w.numbers.one_threshold;
  two_threshold = unwrap_or two w.numbers.two_threshold;
})
effect w (Flags bits) = sets_numbers w (record w.numbers { flags = bits })
effect w Freeze = Ok (Changes false [] [] (record w { objects = replaced frozen w; numbers = record w.numbers { zero_count = 0; one_count = 0; two_count = 0 } }))
effect w Unfreeze = Ok (Changes false [] [] (record w { objects = replaced unfrozen w }))
effect w (Print operand) = do
  v ← value w operand
  prints w (Value v)
effect w (Refs operand) = do
  v ← value w operand
  x ← object w any_object wrong_kind v
  prints w (RefCount (in_degree w x.serial))
effect w (Tracked operand) = do
  v ← value w operand
  prints w (TrackedLine (elim (object_of w v) [ None ↦ false | Some x ↦ is_tracked x ]))
effect w (Finalized operand) = do
  v ← value w operand
  prints w (FinalizedLine (elim (object_of w v) [ None ↦ false | Some x ↦ x.finalized ]))
effect w (Referents operand) = do
  v ← value w operand
  x ← object w any_object wrong_kind v
  _ ← unless (not (is_collecting w)) in_collection
  lists w Referent (references x.entries)
effect w (Referrers operand) = do
  v ← value w operand
  x ← object w any_object wrong_kind v
  _ ← unless (not (is_collecting w)) in_collection
  lists w Referrer (referrers w x.serial)
effect w (Why name) = do
  v ← value w (Name name)
  x ← object w any_object wrong_kind v
  _ ← unless (not (is_collecting w)) in_collection
  Ok (Explains x.serial)
effect w Count = prints w (CountLine w.numbers.zero_count w.numbers.one_count w.numbers.two_count)
effect w Gens = prints w (gens_line w.objects)

-- A refused command prints its refusal; in a frame it also ends the frame.
abbrev pub without_commands : List Activity → List Activity
without_commands (TopLevel commands ∷ below) = TopLevel [] ∷ below
without_commands (Framed f ∷ below) = Framed (record f { commands = [] }) ∷ below
without_commands stack = stack

-- the top frame has no commands left
abbrev pub stopped_frame : List Activity → List Activity
stopped_frame (Framed f ∷ below) = Framed (record f { commands = [] }) ∷ below
stopped_frame stack = stack

-- a refusal changes nothing else
abbrev pub refused : ℕ → World → Transition
refused refusal w = (Refused refusal ∷ [], with_stack (stopped_frame w.stack) w)

-- a new collection; it reads the debug flags now
abbrev pub new_collection : ℕ → Bool → World → Activity
new_collection g asked w = Collecting (record { generation = g; flags = w.numbers.flags; asked = asked; collected = 0; phase = Start })

-- the lines of a path
abbrev pub path_lines : List ℕ → List Event
path_lines [] = []
path_lines (first ∷ path) = Held first ∷ map Via path

-- What `why` reports of an object: a shortest path of holders, or that there is none.
pub data Explanation (w : World) (object : ℕ) : List Event → Type 0 where
  HasPath : (path : List ℕ) → IsShortestPath (IsHeldElse (other_holdings w) object) (edges (graph_of w.objects)) path object → Explanation w object (path_lines path)
  HasNone : HasNoPath (IsHeldElse (other_holdings w) object) (edges (graph_of w.objects)) object → Explanation w object (Unreachable ∷ [])

-- Where a command allocates, the machine may refuse it for memory instead.
abbrev pub DoesEffect : Script → World → Result Effect ℕ → List Event → World → Type 0
DoesEffect script w (Err refusal) events after = Yields (refused refusal w) events after
DoesEffect script w (Ok (Changes wants_memory lines given_up with_change)) events after =
    Yields (lines, push (Releasing given_up) with_change) events after ⊎ (wants_memory ≡ true) × Yields (refused no_memory w) events after
DoesEffect script w (Ok (Calls f)) events after =
    Yields (start_frame script (record { sort = CallFrame; proc = procedure_of w f; subject = f; func = Some f }) w) events after
DoesEffect script w (Ok (Collects g)) events after =
    Yields (if is_collecting w then (Collected 0 ∷ [], w) else ([], push (new_collection g true w) w)) events after
DoesEffect script w (Ok (Explains o)) events after =
    Explanation w o events × (after ≡ push (Releasing []) w) ⊎ Yields (refused no_memory w) events after
DoesEffect script w (Ok Quits) events after = Yields ([], with_stack (without_commands w.stack) w) events after

-- the step of a command
abbrev pub CommandStep : Script → World → Command → List Event → World → Type 0
CommandStep script w command events after = DoesEffect script w (effect w command) events after
