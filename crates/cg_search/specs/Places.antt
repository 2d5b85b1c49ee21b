-- A graph by places: marks, rows of targets, and what paths lead to. (Ours.)
use Rattle.std.specs.Prelude.{◌≡◌, ℕ, ◌+◌, ◌≤◌, Bool, true, false, List, [], ◌∷◌, ◌++◌, length, map, filter, Some, slice_get, slice_index_or}
use Rattle.std.specs.List.{AllByRecursion}
use Rattle.cg_graph.specs.declared.Edge.{Edge}
use Rattle.cg_graph.specs.Member.{Includes}
use Rattle.cg_graph.specs.Path.{IsPath}

-- a place is marked
abbrev pub Marks : List Bool → ℕ → Type 0
Marks marks i = slice_get marks i ≡ Some true

abbrev pub is_marked : List Bool → ℕ → Bool
is_marked marks i = slice_index_or marks i false

-- one edge for each target of a row; rows are numbered from a place on
abbrev pub edges_from : ℕ → List (List ℕ) → List Edge
edges_from place [] = []
edges_from place (row ∷ rows) = map (λ t. record { from = place; to = t }) row ++ edges_from (place + 1) rows

-- one edge for each target of a node
abbrev pub edges_of : List (List ℕ) → List Edge
edges_of rows = edges_from 0 rows

-- Paths by rows: from a start, along rows, through allowed places.
pub data Leads (starts allowed : List Bool) (rows : List (List ℕ)) : ℕ → Type 0 where
  begins : (i : ℕ) → Marks starts i → Marks allowed i → Leads starts allowed rows i
  follows : (i j : ℕ) (row : List ℕ) → Leads starts allowed rows i → slice_get rows i ≡ Some row → Includes row j → Marks allowed j → Leads starts allowed rows j

-- a path through allowed places: the first is a start, and each next is a target of the one before
pub record IsWay (starts allowed : List Bool) (rows : List (List ℕ)) (path : List ℕ) (object : ℕ) : Type 0 where
  pub leads : IsPath (Marks starts) (edges_of rows) path object
  pub by_allowed : AllByRecursion (Marks allowed) path

-- a shortest such path
pub record IsShortestWay (starts allowed : List Bool) (rows : List (List ℕ)) (path : List ℕ) (object : ℕ) : Type 0 where
  pub is_way : IsWay starts allowed rows path object
  pub shortest : (other : List ℕ) → IsWay starts allowed rows other object → length path ≤ length other

-- there is no such path
abbrev pub HasNoWay : List Bool → List Bool → List (List ℕ) → ℕ → Type 0
HasNoWay starts allowed rows object = (path : List ℕ) → ¬ IsWay starts allowed rows path object

-- a start that is allowed
abbrev pub StartsAt : List Bool → List Bool → ℕ → Type 0
StartsAt starts allowed i = Marks starts i × Marks allowed i

-- the edges that lead to allowed places
abbrev pub steps_of : List Bool → List (List ℕ) → List Edge
steps_of allowed rows = filter (λ e. is_marked allowed e.to) (edges_of rows)
