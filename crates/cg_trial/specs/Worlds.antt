-- When a heap represents the objects, names and stack holds of a world of the machine. (Ours.)
use Rattle.std.specs.Prelude.{◌≡◌, ℕ, List, [], ◌∷◌, ◌++◌, Option}
use Rattle.cg_value.specs.declared.Val.{Val}
use Rattle.cg_graph.specs.Object.{Object}
use Rattle.cg_graph.specs.Holdings.{occurrences, name_holdings, entry_holdings, graph_of}
use Rattle.cg_graph.specs.Store.{Store, objects_of, outside_of}

-- The objects and names are the same, and each object's outside holds are those of the stack.
pub record HeapStandsFor (store : Store) (objects : List Object) (names : List (Option Val)) (stack : List ℕ) : Type 0 where
  pub same_objects : objects_of store ≡ objects
  pub same_names : store.names ≡ names
  pub outside : (o : ℕ) → outside_of store o ≡ occurrences o stack

-- what names, the garbage root, entries and the stack hold
abbrev pub all_holdings : List Object → List (Option Val) → List ℕ → List ℕ
all_holdings objects names stack = name_holdings names ++ (1 ∷ []) ++ entry_holdings (graph_of objects) ++ stack
