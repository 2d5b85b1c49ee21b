-- What the calls of a heap require and what they change. (Ours.)
use Rattle.std.specs.Prelude.{◌≡◌, ℕ, ◌+◌, ◌-◌, ◌<◌, ◌≤◌, ◌==◌, if◌then◌else◌, Bool, true, false, not, ◌&&◌, ◌||◌, Option, Some, None, List, [], ◌∷◌, length, option_map, slice_get}
use Rattle.std.specs.FinMap as fin
use Rattle.cg_value.specs.declared.Val.{Val}
use Rattle.cg_value.specs.declared.Val.TheVariants.{None as Nothing, Int, Str, Ref}
use Rattle.cg_value.specs.declared.Entry.{Entry}
use Rattle.cg_value.specs.declared.KindCode.{KindCode}
use Rattle.cg_value.specs.declared.KindCode.TheVariants.{List as ListKind, Tuple, Dict, Inst}
use Rattle.cg_value.specs.declared.Place.{Place}
use Rattle.cg_value.specs.declared.Place.TheVariants.{Untracked, Gen}
use Rattle.cg_kind.specs.Calls.{CanPut, value_under, after_put}
use Rattle.cg_graph.specs.Maps.{mapped, changed, total}
use Rattle.cg_graph.specs.Object.{same_place}
use Rattle.cg_graph.specs.Value.{references_of_value}
use Rattle.cg_graph.specs.Holdings.{occurrences}
use Rattle.cg_graph.specs.Places.{place_number, list_of, merge_lists}
use Rattle.cg_graph.specs.Store.{Store, Node, IsLive, HasCode, entries_of, inner, count_of}
use Rattle.cg_graph.specs.Changes.{held, unheld, rewritten, named, made, moved, with_place}
use Rattle.cg_graph.specs.declared.limits.TheConstants.{MOST_ENTRIES, MOST_OBJECTS}
use Rattle.cg_arena.specs.Nodes.{count_in_list}
use Rattle.cg_heap.specs.Keeps.{size, one, IsWellMadeAt, IsGarbage, outside_total}
use Rattle.cg_heap.specs.Weak.{AreRows, attached}

-- All objects together have fewer than 2^31 - 2 outside holds, so that a call may add two. (Ours: it keeps every count
-- within 2^32 - 1.)
abbrev pub HasFewHolds : Store → Type 0
HasFewHolds store = outside_total store < 2147483646

-- the number of live objects, and of their entries, not counting the garbage list
abbrev pub object_number : Store → ℕ
object_number store = total one store.nodes - 1

abbrev pub entry_number : Store → ℕ
entry_number store = total size store.nodes - length (entries_of store 1)

-- the number of entries after one entry of an object is removed
abbrev pub number_less : ℕ → ℕ → ℕ
number_less o number = if o == 1 then number else number - 1

-- the kind of an optional node, and of an object
abbrev pub code_in : Option Node → KindCode
code_in None = ListKind
code_in (Some n) = n.code

abbrev pub code_of : Store → ℕ → KindCode
code_of store o = code_in (fin.get store.nodes o)

-- Values are put into lists, dictionaries and instances, and entries taken out of them. The other kinds never change
-- until they are cleared.
abbrev pub IsMutable : KindCode → Type 0
IsMutable ListKind = Unit {0}
IsMutable Dict = Unit {0}
IsMutable Inst = Unit {0}
IsMutable code = ⊥

-- a live object whose entries may be taken out
abbrev pub CanTake : Store → ℕ → Type 0
CanTake store o = IsLive store o × IsMutable (code_of store o)

-- a live object that takes a value under the key
abbrev pub CanPutIn : Store → ℕ → Val → Type 0
CanPutIn store o key = IsLive store o × IsMutable (code_of store o) × CanPut (code_of store o) (entries_of store o) key

-- a reference in the value is live
abbrev pub IsLiveValue : Store → Val → Type 0
IsLiveValue store v = (s : ℕ) → v ≡ Ref s → IsLive store s

-- the name with this number is bound
abbrev pub IsBound : List (Option Val) → ℕ → Type 0
IsBound names n = (v : Val) × (slice_get names n ≡ Some (Some v))

-- every bound name has a number below this one
abbrev pub AreBoundBelow : ℕ → List (Option Val) → Type 0
AreBoundBelow upper names = (n : ℕ) → IsBound names n → n < upper

-- the greatest number of a bound name, None if no name is bound
abbrev pub IsGreatestBound : List (Option Val) → Option ℕ → Type 0
IsGreatestBound names None = (n : ℕ) → ¬ IsBound names n
IsGreatestBound names (Some greatest) = IsBound names greatest × ((n : ℕ) → IsBound names n → n ≤ greatest)

-- the value that a put at the key replaces, if any
abbrev pub value_in : Store → ℕ → Val → Option Val
value_in store o key = value_under (code_of store o) (entries_of store o) key

-- Puts a value under a key; the value it replaces becomes held from outside.
abbrev pub with_put : Store → ℕ → Val → Val → Store
with_put store o key val = held (references_of_value (value_in store o key)) (rewritten o (after_put (code_of store o) (entries_of store o) key val) store)

-- Makes an object and binds a name to it; the name's reference takes the place of the outside hold. The name's old value
-- becomes held from outside.
abbrev pub made_named : ℕ → Option Val → KindCode → Option ℕ → List Entry → Option ℕ → Store → Store
made_named name old code class parts referent store = held (references_of_value old) (named name (Some (Ref (store.last + 1))) (unheld ((store.last + 1) ∷ [])
    (attached (store.last + 1) referent (made code class parts store))))

-- An object may be tracked if it is not a tuple, or is a tracked tuple; an atom may not. (Developer guide,
-- "optimization: delay tracking containers".)
abbrev pub code_may_be_tracked : KindCode → Place → Bool
code_may_be_tracked Tuple place = not (same_place place Untracked)
code_may_be_tracked code place = true

abbrev pub node_may_be_tracked : Option Node → Bool
node_may_be_tracked None = false
node_may_be_tracked (Some n) = code_may_be_tracked n.code n.place

abbrev pub may_be_tracked : Store → Val → Bool
may_be_tracked store Nothing = false
may_be_tracked store (Int n) = false
may_be_tracked store (Str n) = false
may_be_tracked store (Ref s) = node_may_be_tracked (fin.get store.nodes s)

-- an untracked dictionary
abbrev pub is_dict_at : KindCode → Place → Bool
is_dict_at Dict place = same_place place Untracked
is_dict_at code place = false

abbrev pub is_untracked_dict : Option Node → Bool
is_untracked_dict None = false
is_untracked_dict (Some n) = is_dict_at n.code n.place

-- A key or value that may be tracked makes an untracked dictionary tracked. (`gc` manual, `gc.is_tracked`.)
abbrev pub becomes_tracked : Store → ℕ → Val → Val → Bool
becomes_tracked store o key val = is_untracked_dict (fin.get store.nodes o) && (may_be_tracked store key || may_be_tracked store val)

-- it moves to the end of generation 0
abbrev pub tracked_if : Bool → ℕ → Store → Store
tracked_if b o store = if b then moved o (Gen 0) store else store

-- all objects of one place move to the end of another, in order
abbrev pub place_merged : Place → Place → Node → Node
place_merged p q n = if place_number n.place == place_number p then with_place q n else n

abbrev pub merged : Place → Place → Store → Store
merged p q store = record store {
  nodes = mapped (λ s n. place_merged p q n) store.nodes;
  lists = merge_lists store.lists (place_number p) (place_number q);
}

-- one object with the finalized mark (PEP 442: a finalizer is called once)
abbrev pub marked : Node → Node
marked n = record n { finalized = true }

-- one object with another collector's number
abbrev pub with_number : ℕ → Node → Node
with_number number n = record n { number = number }

abbrev pub with_node : (Node → Node) → ℕ → Store → Store
with_node f o store = record store { nodes = changed f o store.nodes }

-- Each live object is once in the list of its place, and in no other list. (Developer guide, "Optimization:
-- generations": each tracked object is in one generation.)
pub record IsListed (store : Store) : Type 0 where
  pub ten : length store.lists ≡ 10
  pub placed : (s : ℕ) (n : Node) → fin.get store.nodes s ≡ Some n → place_number n.place < 10
  pub once : (p s : ℕ) → p < 10 → occurrences s (list_of store.lists p) ≡ count_in_list p (option_map (λ n. n.place) (fin.get store.nodes s))

-- The invariant of every heap, for callers.
pub record IsSound (store : Store) : Type 0 where
  -- what names, the garbage root and entries hold is live
  pub live : (s : ℕ) → 0 < inner store s → IsLive store s
  pub fits : (s : ℕ) → count_of store s < 4294967296
  pub below : (s : ℕ) → IsLive store s → s ≤ store.last
  -- items of a list and a weak reference's callback have no keys, a weak reference has no other entry, and instances
  -- and functions have a number
  pub well : (s : ℕ) → IsWellMadeAt (fin.get store.nodes s)
  pub listed : IsListed store
  pub root : HasCode store 1 ListKind  -- the garbage list lives
  pub garbage : IsGarbage (entries_of store 1)
  pub rows : AreRows store
  pub objects : object_number store ≤ MOST_OBJECTS
  pub entries : entry_number store ≤ MOST_ENTRIES
