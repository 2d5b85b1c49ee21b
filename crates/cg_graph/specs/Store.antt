-- The model of a heap: its objects with their outside holds, its names, the order of each place's list, and the rows
-- of its weak references. (Ours. The machine has no outside holds, lists or rows.)
use Rattle.std.specs.Prelude.{◌≡◌, ℕ, ◌+◌, Bool, List, [], ◌∷◌, Option, Some, None, IsSome, map}
use Rattle.std.specs.Ordering.{nat_cmp}
use Rattle.std.specs.FinMap as fin
use Rattle.cg_value.specs.declared.Val.{Val}
use Rattle.cg_value.specs.declared.Entry.{Entry}
use Rattle.cg_value.specs.declared.KindCode.{KindCode}
use Rattle.cg_value.specs.declared.Place.{Place}
use Rattle.cg_value.specs.declared.Place.TheVariants.{Untracked}
use Rattle.cg_graph.specs.Maps.{total}
use Rattle.cg_graph.specs.Value.{references}
use Rattle.cg_graph.specs.Object.{Object}
use Rattle.cg_graph.specs.Holdings.{occurrences, name_holdings}
use Rattle.cg_graph.specs.Places.{place_number, list_of}
use Rattle.cg_graph.specs.Rows.{Row, referent_in, waiting_in}

-- an object without its serial and referent
pub record Node : Type 0 where
  pub code : KindCode
  pub class : Option ℕ  -- an instance's class, a function's procedure
  pub entries : List Entry
  pub finalized : Bool
  pub place : Place
  pub number : ℕ  -- the collector's number
  pub outside : ℕ  -- holds from outside the heap

-- the value of a heap
pub record Store : Type 0 where
  pub nodes : fin.FinMap nat_cmp Node  -- by serial
  pub last : ℕ  -- the last serial
  pub names : List (Option Val)  -- by the number of the name
  pub lists : List (List ℕ)  -- the serials of each place, by its number
  pub rows : List Row  -- in ascending order of weak reference

-- the serials of a place, in order
abbrev pub list_at : Store → Place → List ℕ
list_at store p = list_of store.lists (place_number p)

-- the weak references that wait with an object, newest first
abbrev pub waiting_for : Store → ℕ → List ℕ
waiting_for store o = waiting_in store.rows o

-- the object of a node
abbrev pub object_from : List Row → ℕ → Node → Object
object_from rows s n = record {
  serial = s;
  code = n.code;
  class = n.class;
  entries = n.entries;
  place = n.place;
  finalized = n.finalized;
  referent = referent_in rows s;
}

-- the objects, in ascending order of serials
abbrev pub objects_of : Store → List Object
objects_of store = map (λ e. object_from store.rows e.0 e.1) (fin.entries store.nodes)

-- how often an object is held by the entries of a node
abbrev pub held_by : ℕ → Node → ℕ
held_by s n = occurrences s (references n.entries)

-- how often it is held by names, the garbage root and entries
unfoldable pub held_within : List (Option Val) → fin.FinMap nat_cmp Node → ℕ → ℕ
held_within names nodes s = occurrences s (name_holdings names) + occurrences s (1 ∷ []) + total (held_by s) nodes

-- how often an object is held inside the heap
abbrev pub inner : Store → ℕ → ℕ
inner store s = held_within store.names store.nodes s

-- the number of outside holds of an optional node
abbrev pub outside_in : Option Node → ℕ
outside_in None = 0
outside_in (Some n) = n.outside

-- the number of outside holds of an object of a store
abbrev pub outside_of : Store → ℕ → ℕ
outside_of store s = outside_in (fin.get store.nodes s)

-- its count: the number of all holds
abbrev pub count_of : Store → ℕ → ℕ
count_of store s = inner store s + outside_of store s

-- an object with this serial exists
abbrev pub IsLive : Store → ℕ → Type 0
IsLive store s = IsSome (fin.get store.nodes s)

-- the entries of an optional node
abbrev pub entries_in : Option Node → List Entry
entries_in None = []
entries_in (Some n) = n.entries

-- the entries of an object, none if there is no such object
abbrev pub entries_of : Store → ℕ → List Entry
entries_of store s = entries_in (fin.get store.nodes s)

abbrev pub place_in : Option Node → Place
place_in None = Untracked
place_in (Some n) = n.place

-- the place of an object of a store
abbrev pub place_of : Store → ℕ → Place
place_of store s = place_in (fin.get store.nodes s)

-- an object of this kind exists
abbrev pub HasCode : Store → ℕ → KindCode → Type 0
HasCode store s code = (n : Node) × (fin.get store.nodes s ≡ Some n) × (n.code ≡ code)
