-- Paths among some objects of a heap, in terms of `Reach`. (Developer guide, "identifying reference cycles".)
use Rattle.std.specs.Prelude.{ℕ, ◌<◌, List, map, length, sum_by}
use Rattle.cg_graph.specs.Member.{Includes}
use Rattle.cg_graph.specs.Holdings.{Graph, occurrences, entry_holdings}
use Rattle.cg_graph.specs.Reach.{Reach, edges}
use Rattle.cg_trial.specs.View.{View}

-- the graph of some objects
abbrev pub graph_in : View → List ℕ → Graph
graph_in v members = map (λ o. (o, v.entries o)) members

-- an object with more holds than their entries give it
abbrev pub IsHeldBeyond : View → List ℕ → ℕ → Type 0
IsHeldBeyond v members o = occurrences o (entry_holdings (graph_in v members)) < v.degree o

-- a path leads to it
abbrev pub Reached : View → List ℕ → ℕ → Type 0
Reached v members o = Reach (IsHeldBeyond v members) (Includes members) (edges (graph_in v members)) o

-- the number of their entries
abbrev pub entries_in : View → List ℕ → ℕ
entries_in v members = sum_by (λ o. length (v.entries o)) members
