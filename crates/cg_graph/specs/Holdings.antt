-- A graph is the entry lists of its objects; this is what its entries hold and how often. (Developer guide, "reference
-- counting": an object's count is the number of references to it.)
use Rattle.std.specs.Prelude.{ℕ, List, ◌==◌, Option, map, flat_map, count_by}
use Rattle.cg_value.specs.declared.Val.{Val}
use Rattle.cg_value.specs.declared.Entry.{Entry}
use Rattle.cg_graph.specs.Value.{references, references_of_value}
use Rattle.cg_graph.specs.Object.{Object}

-- how often a serial occurs in a list of references
abbrev pub occurrences : ℕ → List ℕ → ℕ
occurrences s refs = count_by (λ r. r == s) refs

-- the entry lists of a graph, by number
abbrev pub Graph : Type 0
Graph = List (ℕ × List Entry)

-- what the entries of a graph hold
abbrev pub entry_holdings : Graph → List ℕ
entry_holdings graph = flat_map (λ n. references n.1) graph

-- what names hold; an unbound one holds nothing
abbrev pub name_holdings : List (Option Val) → List ℕ
name_holdings names = flat_map references_of_value names

-- the graph of some objects
abbrev pub graph_of : List Object → Graph
graph_of objects = map (λ x. (x.serial, x.entries)) objects
