-- Uncollectable objects are appended to the garbage list. (`gc` manual, `gc.garbage`, `gc.DEBUG_SAVEALL`.)
use Rattle.std.specs.Prelude.{ℕ, List, ◌++◌, map, filter}
use Rattle.cg_value.specs.declared.Place.TheVariants.{Legacy}
use Rattle.cg_value.specs.declared.Val.TheVariants.{Ref}
use Rattle.cg_script.specs.declared.Script.{Script}
use Rattle.cg_graph.specs.Value.{item}
use Rattle.cg_graph.specs.Store.{Store, list_at, entries_of}
use Rattle.cg_graph.specs.Changes.{rewritten}
use Rattle.cg_collect.specs.Phases.{is_saved_at}

-- these are saved, in this order
abbrev pub with_saved : List ℕ → Store → Store
with_saved keeps store = rewritten 1 (entries_of store 1 ++ map (λ o. item (Ref o)) keeps) store

-- the uncollectable objects to be saved, in list order
abbrev pub kept_aside : Script → ℕ → Store → List ℕ
kept_aside script flags store = filter (is_saved_at script flags store) (list_at store Legacy)
