-- Questions about a heap while no collection is under way: what roots hold, and why an object is alive. (Ours.)
use Rattle.std.specs.Prelude.{◌≡◌, ℕ, ◌+◌, List, [], ◌∷◌, ◌++◌, length, sum_by}
use Rattle.cg_value.specs.declared.Place.TheVariants.{Untracked, Gen, Frozen, Cand, Seen, Back, Legacy, Pend}
use Rattle.cg_graph.specs.declared.Edge.{Edge}
use Rattle.cg_graph.specs.Holdings.{occurrences, name_holdings, graph_of}
use Rattle.cg_graph.specs.Reach.{edges}
use Rattle.cg_graph.specs.Path.{IsHeldElse, IsShortestPath, HasNoPath}
use Rattle.cg_graph.specs.Store.{Store, list_at, objects_of, outside_of}
use Rattle.cg_inspect.specs.declared.reason.Why.{Why}
use Rattle.cg_inspect.specs.declared.reason.Why.TheVariants as reason

-- No collection is under way: the places that collections use are empty.
pub record IsIdle (store : Store) : Type 0 where
  pub candidates : list_at store Cand ≡ []
  pub seen : list_at store Seen ≡ []
  pub back : list_at store Back ≡ []
  pub legacy : list_at store Legacy ≡ []
  pub pending : list_at store Pend ≡ []

-- the objects of the other places
abbrev pub idle_lists : Store → List ℕ
idle_lists store = list_at store Untracked ++ list_at store (Gen 0) ++ list_at store (Gen 1) ++ list_at store (Gen 2) ++ list_at store Frozen

-- the number of entries of all objects
abbrev pub entry_number_in_all : Store → ℕ
entry_number_in_all store = sum_by (λ x. length x.entries) (objects_of store)

-- how often names, the garbage root and outside holds hold an object
abbrev pub holdings_but_entries : Store → ℕ → ℕ
holdings_but_entries store o = occurrences o (name_holdings store.names) + occurrences o (1 ∷ []) + outside_of store o

-- a root other than the given name holds an object
abbrev pub HeldElse : Store → ℕ → ℕ → Type 0
HeldElse store object = IsHeldElse (holdings_but_entries store) object

-- one edge for each reference of an entry
abbrev pub arrows_of : Store → List Edge
arrows_of store = edges (graph_of (objects_of store))

-- why an object is alive: by this shortest path, or by none
abbrev pub IsReason : Store → ℕ → Why → Type 0
IsReason store object (reason.Path path) = IsShortestPath (HeldElse store object) (arrows_of store) path.items object
IsReason store object reason.Unreachable = HasNoPath (HeldElse store object) (arrows_of store) object
