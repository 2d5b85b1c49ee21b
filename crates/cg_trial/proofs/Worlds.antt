-- Reachability in a heap is reachability in the world that it represents.
use Rattle.std.proofs.Common.{◌≡◌, ℕ, List, [], ◌∷◌, ◌++◌, Option, arith}
use Rattle.cg_value.specs.declared.Val.{Val}
use Rattle.cg_graph.specs.Object.{Object}
use Rattle.cg_graph.specs.Holdings.{occurrences, name_holdings, entry_holdings, graph_of}
use Rattle.cg_graph.specs.Store.{Store, objects_of, count_of}
use Rattle.cg_graph.proofs.Objects.{inner-holdings, occurrences-append}
use Rattle.cg_trial.specs.Worlds.{HeapStandsFor, all_holdings}

pub counts_alike : (store : Store) (objects : List Object) (names : List (Option Val)) (stack : List ℕ) → HeapStandsFor store objects names stack → (o : ℕ)
    → count_of store o ≡ occurrences o (all_holdings objects names stack)
counts_alike store objects names stack stands o =
    let same : occurrences o (name_holdings store.names ++ (1 ∷ []) ++ entry_holdings (graph_of (objects_of store))) ≡ occurrences o (name_holdings names
    ++ (1 ∷ []) ++ entry_holdings (graph_of objects)) =
    λ i. occurrences o (name_holdings (stands.same_names i) ++ (1 ∷ []) ++ entry_holdings (graph_of (stands.same_objects i))) in
    omega (arith, inner-holdings store o, same, stands.outside o, occurrences-append o (name_holdings names ++ (1 ∷ []) ++ entry_holdings (graph_of objects)) stack)
