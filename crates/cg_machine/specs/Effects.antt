-- What commands do to a world. (Ours; a dictionary becomes tracked when it gets a value that may be tracked:
-- `gc.is_tracked`.)
use Rattle.std.specs.Prelude.{ℕ, ◌+◌, ℤ, pos, negsuc, Bool, true, false, not, ◌&&◌, ◌||◌, ◌==◌, nat_lt, nat_le, List, [], ◌∷◌, ◌++◌, Option, Some, None, Result, Ok, if◌then◌else◌, option_and_then, map, filter, length, slice_get, slice_set, sum_by, count_by, is_some, is_none}
use Rattle.cg_value.specs.declared.Val.{Val}
use Rattle.cg_value.specs.declared.Val.TheVariants.{None as Nothing, Ref}
use Rattle.cg_value.specs.declared.Entry.{Entry}
use Rattle.cg_value.specs.declared.KindCode.{KindCode}
use Rattle.cg_value.specs.declared.Place.{Place}
use Rattle.cg_value.specs.declared.Place.TheVariants.{Gen, Frozen}
use Rattle.cg_script.specs.declared.command.Operand.{Operand}
use Rattle.cg_graph.specs.Value.{item, value_at, put, references_of_value}
use Rattle.cg_graph.specs.Object.{first_place, Object, with_entries, with_place, is_tracked, may_be_tracked, serials, serials_at}
use Rattle.cg_graph.specs.Path.{refers_to}
use Rattle.cg_machine.specs.declared.event.Event.{Event}
use Rattle.cg_machine.specs.declared.event.Event.TheVariants.{Made, Listed, Gens as GensLine}
use Rattle.cg_machine.specs.World.{World, Numbers, with_change}
use Rattle.cg_graph.specs.declared.limits.TheConstants.{MOST_ENTRIES, MOST_OBJECTS}
use Rattle.cg_machine.specs.Refusals.{entry_limit, not_callable, object_limit, unless, ◌>>=◌}
use Rattle.cg_machine.specs.Operands.{is_dict, object, object_of, values}
use Rattle.cg_machine.specs.Weak.{has_weak_references, is_function}

-- The effect of a command. Changes has the lines, the references to give up, and whether memory may run out. Explains has
-- the lines of any shortest path of holders to the object.
pub data Effect : Type 0 where
  Changes : (wants_memory : Bool) (lines : List Event) (given_up : List ℕ) (after : World) → Effect
  Calls : (function : ℕ) → Effect
  Collects : (generation : ℕ) → Effect
  Quits : Effect
  Explains : (object : ℕ) → Effect

-- the sizes of the generations and of the permanent one
abbrev pub gens_line : List Object → Event
gens_line objects = GensLine (length (serials_at objects (Gen 0))) (length (serials_at objects (Gen 1))) (length (serials_at objects (Gen 2))) (length (serials_at objects Frozen))

-- a key is an atom, an instance or a function
abbrev pub is_hashable : World → Val → Bool
is_hashable w v = elim (object_of w v) [ None ↦ true | Some x ↦ has_weak_references x ]

-- an index below a length
abbrev pub valid_index : ℤ → ℕ → Option ℕ
valid_index (pos n) len = if nat_lt n len then Some n else None
valid_index (negsuc n) len = None

-- how many objects live and how many entries they have, not counting the garbage list
abbrev pub live : World → ℕ
live w = count_by (λ x. not (x.serial == 1)) w.objects

-- their entries
abbrev pub entry_count : World → ℕ
entry_count w = sum_by (λ x. if x.serial == 1 then 0 else length x.entries) w.objects

-- refuses where this many more entries would pass the limit
abbrev pub has_room : World → ℕ → Result (Unit {0}) ℕ
has_room w n = unless (nat_le (entry_count w + n) MOST_ENTRIES) entry_limit

-- a name gets a value or is unbound; its old value is given up
abbrev pub bound : World → ℕ → Option Val → World
bound w name v = record w { names = slice_set w.names name v }

-- the references of a name's old value
abbrev pub given_up_by : World → ℕ → List ℕ
given_up_by w name = references_of_value (option_and_then (λ v. v) (slice_get w.names name))

-- a name is bound to a value
abbrev pub binds : World → ℕ → Val → Result Effect ℕ
binds w name v = Ok (Changes false [] (given_up_by w name) (bound w name (Some v)))

-- a world with a new object
abbrev pub with_new : World → KindCode → Option ℕ → List Entry → Option ℕ → World
with_new w kind class entries referent = record w {
  objects = w.objects ++ record { serial = w.next_serial; code = kind; class = class; entries = entries; place = first_place kind; finalized = false; referent = referent } ∷ [];
  next_serial = w.next_serial + 1;
  numbers = record w.numbers { zero_count = w.numbers.zero_count + 1 };
}

-- a new object is bound to a name
abbrev pub makes : World → ℕ → KindCode → Option ℕ → List Entry → Option ℕ → Result Effect ℕ
makes w name kind class entries referent = do
  _ ← unless (nat_lt (live w) MOST_OBJECTS) object_limit
  _ ← has_room w (length entries)
  Ok (Changes true (Made kind w.next_serial ∷ []) (given_up_by w name) (bound (with_new w kind class entries referent) name (Some (Ref w.next_serial))))

-- a new object with the values of operands
abbrev pub makes_of : World → ℕ → KindCode → Option ℕ → List Operand → Result Effect ℕ
makes_of w name kind class operands = do
  vs ← values w operands
  makes w name kind class (map item vs) None

-- the entries of an object change, and references are given up
abbrev pub sets_entries : World → Object → List Entry → List ℕ → Result Effect ℕ
sets_entries w x entries given_up = Ok (Changes false [] given_up (with_change (with_entries entries) x.serial w))

-- whether a value is an object that may be tracked
abbrev pub may_track : World → Val → Bool
may_track w v = elim (object_of w v) [ None ↦ false | Some x ↦ may_be_tracked x ]

-- an untracked dictionary becomes tracked when it gets such a key or value
abbrev pub tracked_by : World → Val → Val → Object → Object
tracked_by w key v x = if is_dict x && not (is_tracked x) && (may_track w key || may_track w v) then with_place (Gen 0) x else x

-- A key gets a value. Only a new key needs room and memory.
abbrev pub puts : World → Object → Val → Val → Result Effect ℕ
puts w x key v = do
  let old = value_at x.entries key
  _ ← (if is_some old then Ok tt else has_room w 1)
  Ok (Changes (is_none old) [] (references_of_value old) (with_change (λ y. tracked_by w key v (with_entries (put x.entries key v) y)) x.serial w))

-- prints and changes nothing
abbrev pub prints : World → Event → Result Effect ℕ
prints w line = Ok (Changes false (line ∷ []) [] w)

-- A line for each object, then their number. The list may need memory.
abbrev pub lists : World → (ℕ → Event) → List ℕ → Result Effect ℕ
lists w line objects = Ok (Changes true (map line objects ++ Listed (length objects) ∷ []) [] w)

-- the objects that refer to one, by rising serial
abbrev pub referrers : World → ℕ → List ℕ
referrers w o = serials (filter (refers_to o) w.objects)

-- the numbers change
abbrev pub sets_numbers : World → Numbers → Result Effect ℕ
sets_numbers w numbers = Ok (Changes false [] [] (record w { numbers = numbers }))

-- the places after `freeze` and `unfreeze` (`gc.freeze`, `gc.unfreeze`)
abbrev pub frozen : Place → Place
frozen (Gen i) = Frozen
frozen p = p

-- out of the permanent generation
abbrev pub unfrozen : Place → Place
unfrozen Frozen = Gen 2
unfrozen p = p

-- every object after such a change of places
abbrev pub replaced : (Place → Place) → World → List Object
replaced f w = map (λ x. with_place (f x.place) x) w.objects

-- the entry of a weak reference with this callback; None is no callback
abbrev pub callback_entries : World → Val → Result (List Entry) ℕ
callback_entries w Nothing = Ok []
callback_entries w v = do
  f ← object w is_function not_callable v
  Ok (item v ∷ [])
