-- How boxes, nodes and names represent a store, and their invariant. (Ours.)
use Rattle.std.specs.Prelude.{◌≡◌, ℕ, ◌+◌, ◌-◌, ◌<◌, ◌≤◌, List, length, Option, Some, None, IsSome, ◌∷◌, All}
use Rattle.std.specs.Ordering.{nat_cmp}
use Rattle.std.specs.FinMap as fin
use Rattle.cg_value.specs.declared.Val.{Val}
use Rattle.cg_value.specs.declared.KindCode.{KindCode}
use Rattle.cg_value.specs.declared.KindCode.TheVariants.{List as ListKind, Inst, Func, Weak}
use Rattle.cg_kind.specs.Bodies.{Bodies}
use Rattle.cg_kind.specs.Calls.{AreItems}
use Rattle.cg_graph.specs.Maps.{mapped, total}
use Rattle.cg_graph.specs.Rows.{Row}
use Rattle.cg_graph.specs.declared.limits.TheConstants.{MOST_ENTRIES, MOST_OBJECTS}
use Rattle.cg_graph.specs.Store.{Store, Node, held_within, count_of, IsLive, entries_of}
use Rattle.cg_arena.specs.Nodes.{ArenaNode, Nodes, count_in}
use Rattle.cg_heap.specs.declared.heap.objects.Objects.{Objects}
use Rattle.cg_heap.specs.Boxes.{HasBody, entries_in_box, spare_in_box, boxes_with_body}
use Rattle.cg_value.specs.declared.Val.TheVariants.{Ref}
use Rattle.cg_value.specs.declared.Entry.{Entry}
use Rattle.cg_graph.specs.Value.{item, references}
use Rattle.cg_graph.specs.Holdings.{occurrences}
use Rattle.cg_heap.specs.Weak.{AreRows}

-- the object that a node represents, given its outside holds
abbrev pub node_from : List Bodies → ArenaNode → ℕ → Node
node_from all n outside = record {
  code = n.code;
  class = n.class;
  entries = entries_in_box all n.code n.body;
  finalized = n.finalized;
  place = n.place;
  number = n.number;
  outside = outside;
}

-- the objects that the nodes represent, without outside holds
abbrev pub bare_nodes : List Bodies → fin.FinMap nat_cmp ArenaNode → fin.FinMap nat_cmp Node
bare_nodes all nodes = mapped (λ s n. node_from all n 0) nodes

-- The outside holds are the count minus the holds of names, the garbage root and entries.
unfoldable pub nodes_from : List Bodies → List (Option Val) → fin.FinMap nat_cmp ArenaNode → fin.FinMap nat_cmp Node
nodes_from all names nodes = mapped (λ s n. node_from all n (n.count - held_within names (bare_nodes all nodes) s)) nodes

-- the store that a heap's fields represent
abbrev pub store_of : List Bodies → Nodes → List (Option Val) → ℕ → List Row → Store
store_of all v names last rows = record { nodes = nodes_from all names v.nodes; last = last; names = names; lists = v.lists; rows = rows }

-- a node represents an object, and has a body
abbrev pub Alike : List Bodies → Option ArenaNode → Option Node → Type 0
Alike all None None = Unit {0}
Alike all None (Some x) = ⊥
Alike all (Some n) None = ⊥
Alike all (Some n) (Some x) = (x ≡ node_from all n x.outside) × HasBody all n.code n.body

-- the box and place of an optional node's body
abbrev pub seat_in : Option ArenaNode → Option (KindCode × ℕ)
seat_in None = None
seat_in (Some n) = Some (n.code, n.body)

-- the number of entries of an object, and 1 for each object
abbrev pub size : Node → ℕ
size n = length n.entries

abbrev pub one : Node → ℕ
one n = 1

-- an instance has a class, a function a procedure, and other objects have no number
abbrev pub HasClass : KindCode → Option ℕ → Type 0
HasClass Inst class = IsSome class
HasClass Func class = IsSome class
HasClass code class = class ≡ None

-- The invariant of each object: items of a list have no keys, and a weak reference has at most one entry, its
-- callback, without a key.
pub record IsWellMade (n : Node) : Type 0 where
  pub items : n.code ≡ ListKind → AreItems n.entries
  pub classed : HasClass n.code n.class
  pub single : n.code ≡ Weak → AreItems n.entries × (length n.entries ≤ 1)

abbrev pub IsWellMadeAt : Option Node → Type 0
IsWellMadeAt None = Unit {0}
IsWellMadeAt (Some n) = IsWellMade n

-- an entry of the garbage list names an object
abbrev pub IsSaved : Entry → Type 0
IsSaved e = (s : ℕ) × (e ≡ item (Ref s))

-- The garbage list names each object at most once, and never itself. (`gc` manual, `gc.garbage`.)
pub record IsGarbage (entries : List Entry) : Type 0 where
  pub saved : All IsSaved entries
  pub once : (s : ℕ) → occurrences s (1 ∷ references entries) ≤ 1

-- The garbage list has room for each live object that it does not name yet: it holds `savable` items without allocating.
pub record HasRoomToSave (all : List Bodies) (nodes : fin.FinMap nat_cmp ArenaNode) (objects : Objects) (store : Store) : Type 0 where
  pub body : ℕ
  pub seat : seat_in (fin.get nodes 1) ≡ Some (ListKind, body)
  pub enough : objects.live ≤ objects.savable
  pub ready : objects.savable ≤ length (entries_of store 1) + spare_in_box all ListKind body

-- The list at a place has no more items than there are live objects, and holds `savable` without allocating.
pub record CanSave (all : List Bodies) (objects : Objects) (body : ℕ) : Type 0 where
  pub held : HasBody all ListKind body
  pub few : length (entries_in_box all ListKind body) ≤ objects.live
  pub ready : objects.savable ≤ length (entries_in_box all ListKind body) + spare_in_box all ListKind body

-- Afterwards it holds `savable` items without allocating, more than there are live objects; all else is unchanged.
pub record CanSaveOneMore (old new : List Bodies) (live savable body : ℕ) : Type 0 where
  pub same : new ≡ boxes_with_body old ListKind body (entries_in_box old ListKind body) (spare_in_box new ListKind body)
  pub more : live < savable
  pub ready : savable ≤ length (entries_in_box old ListKind body) + spare_in_box new ListKind body

-- boxes, nodes and objects agree, except for the counts
pub record Shape (all : List Bodies) (nodes : fin.FinMap nat_cmp ArenaNode) (store : Store) : Type 0 where
  pub six : length all ≡ 6
  pub alike : (s : ℕ) → Alike all (fin.get nodes s) (fin.get store.nodes s)
  -- no two nodes share a body
  pub apart : (o p : ℕ) (seat : KindCode × ℕ) → seat_in (fin.get nodes o) ≡ Some seat → seat_in (fin.get nodes p) ≡ Some seat → o ≡ p
  pub below : (s : ℕ) → IsLive store s → s ≤ store.last

-- The invariant of a heap: the fields agree, and the counts are right. The garbage list and its entries do not count
-- towards the limits.
pub record HeapKeeps (all : List Bodies) (nodes : fin.FinMap nat_cmp ArenaNode) (objects : Objects) (entries : ℕ) (store : Store) : Type 0 where
  pub shape : Shape all nodes store
  -- the count is the in-degree, so a held object is live
  pub counted : (s : ℕ) → count_in (fin.get nodes s) ≡ count_of store s
  pub well : (s : ℕ) → IsWellMadeAt (fin.get store.nodes s)
  pub numbered : total one store.nodes ≡ objects.live + 1
  pub sized : total size store.nodes ≡ entries + length (entries_of store 1)
  pub object_limit : objects.live ≤ MOST_OBJECTS
  pub entry_limit : entries ≤ MOST_ENTRIES
  pub saves : IsGarbage (entries_of store 1)
  pub root : HasRoomToSave all nodes objects store
  pub garbage : length (entries_of store 1) ≤ MOST_OBJECTS
  pub names : length store.names < 1073741824

-- the total number of outside holds
abbrev pub outside_total : Store → ℕ
outside_total store = total (λ n. n.outside) store.nodes

-- A further invariant of a heap: about its rows, and few enough outside holds that every count fits.
pub record RowsAndHolds (store : Store) : Type 0 where
  pub rows : AreRows store
  pub holds : outside_total store < 2147483648
