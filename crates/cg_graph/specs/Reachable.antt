-- What is reachable among the objects of one place, in terms of `Reach`. (Developer guide, "identifying reference
-- cycles": the collector searches one generation, or the candidates.)
use Rattle.std.specs.Prelude.{ℕ, ◌<◌}
use Rattle.cg_value.specs.declared.Place.{Place}
use Rattle.cg_graph.specs.Member.{Includes}
use Rattle.cg_graph.specs.Object.{objects_at, serials_at}
use Rattle.cg_graph.specs.Holdings.{Graph, graph_of, occurrences, entry_holdings}
use Rattle.cg_graph.specs.Reach.{Reach, Unreachable, edges}
use Rattle.cg_graph.specs.Store.{Store, objects_of, count_of}

-- the graph of the objects of a place
abbrev pub graph_at : Store → Place → Graph
graph_at store p = graph_of (objects_at (objects_of store) p)

-- an object is in a place
abbrev pub StandsAt : Store → Place → ℕ → Type 0
StandsAt store p o = Includes (serials_at (objects_of store) p) o

-- It has more holds than the entries of the place's objects give it.
abbrev pub IsHeldFromOutside : Store → Place → ℕ → Type 0
IsHeldFromOutside store p o = occurrences o (entry_holdings (graph_at store p)) < count_of store o

-- a path through objects of the place leads to it from one held from outside
abbrev pub IsReachable : Store → Place → ℕ → Type 0
IsReachable store p o = Reach (IsHeldFromOutside store p) (StandsAt store p) (edges (graph_at store p)) o

-- it is in the place, and no such path leads to it
abbrev pub IsUnreachable : Store → Place → ℕ → Type 0
IsUnreachable store p o = Unreachable (IsHeldFromOutside store p) (StandsAt store p) (edges (graph_at store p)) o
