-- What a contract sees of an arena: the nodes by serial, the list of each place, and the room for further nodes. (What
-- is kept of an object beside its entries; developer guide, "Memory layout and object structure": the object's head
-- holds the count and the collector's number.)
use Rattle.std.specs.Prelude.{◌≡◌, ℕ, ◌+◌, ◌-◌, ◌<◌, ◌==◌, Bool, true, false, List, [], ◌∷◌, Option, Some, None, IsSome, length, slice_get, option_map, if◌then◌else◌, refl, replicate}
use Rattle.std.specs.Ordering.{nat_cmp}
use Rattle.std.specs.FinMap as fin
use Rattle.std.specs.Coded.{Coded, code_by, coded×, coded_ℕ, coded_list, coded_bool, coded_option}
use Rattle.cg_value.specs.declared.KindCode.{KindCode}
use Rattle.cg_value.specs.declared.Place.{Place}
use Rattle.cg_value.specs.declared.Place.TheVariants.{Untracked, Gen, Cand}
use Rattle.cg_value.specs.contracts.KindCode as kind
use Rattle.cg_value.specs.contracts.Place as where_it_is
use Rattle.cg_graph.specs.Maps.{mapped, changed}
use Rattle.cg_graph.specs.Holdings.{occurrences}
use Rattle.cg_graph.specs.Places.{place_number, list_of, leaves_list, joins_list, move_between, merge_lists}

-- a node without its serial
pub record ArenaNode : Type 0 where
  pub code : KindCode
  pub class : Option ℕ  -- an instance's class, a function's procedure
  pub body : ℕ  -- where its entries are
  pub count : ℕ
  pub finalized : Bool
  pub place : Place
  pub number : ℕ  -- the collector's number

pub record Nodes : Type 0 where
  pub nodes : fin.FinMap nat_cmp ArenaNode  -- by serial
  pub lists : List (List ℕ)  -- the serials of each place, by its number
  pub room : ℕ  -- a lower bound on the nodes that can be added without allocating

-- a node is stored as the tuple of its fields
abbrev pub node_code : Coded ArenaNode
node_code =
    code_by
    (KindCode × (Option ℕ × (ℕ × (ℕ × (Bool × (Place × ℕ))))))
    (coded× kind.the_row.coded (coded× (coded_option coded_ℕ) (coded× coded_ℕ (coded× coded_ℕ (coded× coded_bool (coded× where_it_is.the_row.coded coded_ℕ))))))
    (λ n. (n.code, (n.class, (n.body, (n.count, (n.finalized, (n.place, n.number)))))))
    (λ p. record { code = p.0; class = p.1.0; body = p.1.1.0; count = p.1.1.1.0; finalized = p.1.1.1.1.0; place = p.1.1.1.1.1.0; number = p.1.1.1.1.1.1 })
    (λ _. refl)

abbrev pub nodes_code : Coded Nodes
nodes_code =
    code_by
    (fin.FinMap nat_cmp ArenaNode × (List (List ℕ) × ℕ))
    (coded× (fin.code coded_ℕ node_code) (coded× (coded_list (coded_list coded_ℕ)) coded_ℕ))
    (λ v. (v.nodes, (v.lists, v.room)))
    (λ p. record { nodes = p.0; lists = p.1.0; room = p.1.1 })
    (λ _. refl)

-- the generations are 0 to 2
abbrev pub IsPlace : Place → Type 0
IsPlace p = place_number p < 10

-- The collector numbers the objects of a generation that it is about to search, and the candidates. (Developer guide,
-- "Identifying reference cycles": `gc_refs` counts during the search of a generation. The rule is ours.)
abbrev pub TakesNumber : Place → Type 0
TakesNumber (Gen i) = Unit {0}
TakesNumber Cand = Unit {0}
TakesNumber place = ⊥

-- there is a node with this serial
abbrev pub HasNode : Nodes → ℕ → Type 0
HasNode v s = IsSome (fin.get v.nodes s)

-- the count of an optional node
abbrev pub count_in : Option ArenaNode → ℕ
count_in None = 0
count_in (Some n) = n.count

abbrev pub count_of : Nodes → ℕ → ℕ
count_of v s = count_in (fin.get v.nodes s)

abbrev pub place_in : Option ArenaNode → Place
place_in None = Untracked
place_in (Some n) = n.place

abbrev pub place_of : Nodes → ℕ → Place
place_of v s = place_in (fin.get v.nodes s)

-- the list of a place
abbrev pub list_at : Nodes → Place → List ℕ
list_at v p = list_of v.lists (place_number p)

-- the element after a serial in a list
abbrev pub following : ℕ → List ℕ → Option ℕ
following s [] = None
following s (x ∷ xs) = if x == s then slice_get xs 0 else following s xs

-- 1 if this is the number of the place, else 0: how often it is in the list with that number
abbrev pub count_in_list : ℕ → Option Place → ℕ
count_in_list p None = 0
count_in_list p (Some q) = if place_number q == p then 1 else 0

-- Each node is once in the list of its place, and in no other list. (Developer guide, "Optimization: generations":
-- each tracked object is in one generation.)
pub record IsListed (v : Nodes) : Type 0 where
  pub ten : length v.lists ≡ 10
  pub placed : (s : ℕ) (n : ArenaNode) → fin.get v.nodes s ≡ Some n → IsPlace n.place
  pub once : (p s : ℕ) → p < 10 → occurrences s (list_of v.lists p) ≡ count_in_list p (option_map (λ n. n.place) (fin.get v.nodes s))

abbrev pub no_nodes : ℕ → Nodes
no_nodes room = record { nodes = fin.empty; lists = replicate 10 []; room = room }

-- a new node: no references to it yet, not finalized
abbrev pub new_node : KindCode → Option ℕ → ℕ → Place → ArenaNode
new_node code class body place = record {
  code = code;
  class = class;
  body = body;
  count = 0;
  finalized = false;
  place = place;
  number = 0;
}

-- the same nodes and lists, with other room
abbrev pub with_room : ℕ → Nodes → Nodes
with_room room v = record v { room = room }

-- one node added, last in the list of its place
abbrev pub with_node : ℕ → ArenaNode → Nodes → Nodes
with_node s n v = record v { nodes = fin.insert v.nodes s n; lists = joins_list v.lists s (place_number n.place) }

-- one node removed
abbrev pub without_node : ℕ → Nodes → Nodes
without_node s v = record v { nodes = fin.remove v.nodes s; lists = leaves_list v.lists s (place_number (place_of v s)) }

-- one node changed in a field other than its place
abbrev pub with_node_changed : (ArenaNode → ArenaNode) → ℕ → Nodes → Nodes
with_node_changed f s v = record v { nodes = changed f s v.nodes }

-- the finalized mark is permanent (PEP 442: a finalizer is called once)
abbrev pub node_finalized : ArenaNode → ArenaNode
node_finalized n = record n { finalized = true }

abbrev pub node_numbered : ℕ → ArenaNode → ArenaNode
node_numbered number n = record n { number = number }

abbrev pub node_placed : Place → ArenaNode → ArenaNode
node_placed p n = record n { place = p }

-- the count of a node after some references are added or removed
abbrev pub node_counted_up : ℕ → ArenaNode → ArenaNode
node_counted_up k n = record n { count = n.count + k }

abbrev pub node_counted_down : ℕ → ArenaNode → ArenaNode
node_counted_down k n = record n { count = n.count - k }

-- each node's count rises or falls by the number of its occurrences in a list of references
abbrev pub counted_up : List ℕ → Nodes → Nodes
counted_up refs v = record v { nodes = mapped (λ s n. node_counted_up (occurrences s refs) n) v.nodes }

abbrev pub counted_down : List ℕ → Nodes → Nodes
counted_down refs v = record v { nodes = mapped (λ s n. node_counted_down (occurrences s refs) n) v.nodes }

-- a node moves from its list to the end of another place's, which may be the same
abbrev pub with_node_moved : ℕ → Place → Nodes → Nodes
with_node_moved s q v = record v {
  nodes = changed (node_placed q) s v.nodes;
  lists = move_between v.lists s (place_number (place_of v s)) (place_number q);
}

-- the node's place becomes q if it is p
abbrev pub place_merged : Place → Place → ArenaNode → ArenaNode
place_merged p q n = if place_number n.place == place_number p then node_placed q n else n

-- all nodes of one place move to the end of another's list, in order
abbrev pub with_lists_merged : Place → Place → Nodes → Nodes
with_lists_merged p q v = record v {
  nodes = mapped (λ s n. place_merged p q n) v.nodes;
  lists = merge_lists v.lists (place_number p) (place_number q);
}
