-- No step of a collection makes an object, binds a name or gives a serial.
use Rattle.std.proofs.Common.{◌≡◌, refl, sym, ◌∙◌, ℕ, Bool, true, false, List, [], ◌∷◌, Option, Some, None, arith}
use Rattle.std.specs.Prelude.{option_map, unwrap_or, if◌then◌else◌}
use Rattle.std.specs.FinMap as fin
use Rattle.cg_value.specs.declared.Entry.{Entry}
use Rattle.cg_value.specs.declared.Place.{Place}
use Rattle.cg_value.specs.declared.Place.TheVariants.{Pend}
use Rattle.cg_graph.specs.Maps.{mapped}
use Rattle.cg_graph.specs.Store.{Store, Node}
use Rattle.cg_graph.specs.Changes.{held, rewritten, moved}
use Rattle.cg_graph.proofs.Maps.{same_map, get-mapped}
use Rattle.cg_heap.specs.Calls.{with_node, merged, place_merged}
use Rattle.cg_heap.specs.Weak.{cleared_weak}
use Rattle.cg_trial.specs.Split.{IsSameNode, IsSameButPlaces}
use Rattle.cg_death.specs.Answers.{once_released}
use Rattle.cg_death.proofs.ObjectNumbers.{none-held, none-unheld, none-rewritten, none-moved, none-cleared, none-taken, none-own_frame, none-mapped, none_then}
use Rattle.cg_collect.specs.Turns.{KeepsObjects}

pub keeps_all : (store : Store) → KeepsObjects store store
keeps_all store = record { objects = record { objects = omega arith; names = refl }; names = (refl, refl) }

pub keeps_then : (a b c : Store) → KeepsObjects a b → KeepsObjects b c → KeepsObjects a c
keeps_then a b c first next = record { objects = none_then a b c first.objects next.objects; names = (next.names.0 ∙ first.names.0, next.names.1 ∙ first.names.1) }

pub keeps-held : (refs : List ℕ) (store : Store) → KeepsObjects store (held refs store)
keeps-held refs store = record { objects = none-held refs store; names = (refl, refl) }

pub keeps-moved : (o : ℕ) (p : Place) (store : Store) → KeepsObjects store (moved o p store)
keeps-moved o p store = record { objects = none-moved o p store; names = (refl, refl) }

pub keeps-rewritten : (o : ℕ) (es : List Entry) (store : Store) → KeepsObjects store (rewritten o es store)
keeps-rewritten o es store = record { objects = none-rewritten o es store; names = (refl, refl) }

pub keeps-taken : (refs : List ℕ) (o : ℕ) (es : List Entry) (store : Store) → KeepsObjects store (held refs (rewritten o es store))
keeps-taken refs o es store = record { objects = none-taken refs o es store; names = (refl, refl) }

pub keeps-cleared : (weak : ℕ) (wait : Bool) (store : Store) → KeepsObjects store (cleared_weak weak wait store)
keeps-cleared weak wait store = record { objects = none-cleared weak wait store; names = (refl, refl) }

pub keeps-merged : (p q : Place) (store : Store) → KeepsObjects store (merged p q store)
keeps-merged p q store = record { objects = none-mapped store (merged p q store) (λ s n. place_merged p q n) refl refl; names = (refl, refl) }

pub keeps-own_frame : (f : Node → Node) (o : ℕ) (p : Place) (store : Store) → KeepsObjects store (held (o ∷ []) (with_node f o (moved o p store)))
keeps-own_frame f o p store = record { objects = none-own_frame f o p store; names = (refl, refl) }

-- a weak reference is cleared, and may wait
pub keeps-lost : (b : Bool) (weak : ℕ) (store : Store) → KeepsObjects store (if b then moved weak Pend (held (weak ∷ []) (cleared_weak weak false store)) else cleared_weak weak false store)
keeps-lost true weak store =
    keeps_then store (cleared_weak weak false store) (moved weak Pend (held (weak ∷ []) (cleared_weak weak false store))) (keeps-cleared weak false store)
    (keeps_then (cleared_weak weak false store) (held (weak ∷ []) (cleared_weak weak false store)) (moved weak Pend (held (weak ∷ []) (cleared_weak weak false store)))
    (keeps-held (weak ∷ []) (cleared_weak weak false store)) (keeps-moved weak Pend (held (weak ∷ []) (cleared_weak weak false store))))
keeps-lost false weak store = keeps-cleared weak false store

-- one is saved, and moves
pub keeps-saved : (o : ℕ) (p : Place) (es : List Entry) (store : Store) → KeepsObjects store (moved o p (rewritten 1 es store))
keeps-saved o p es store = keeps_then store (rewritten 1 es store) (moved o p (rewritten 1 es store)) (keeps-rewritten 1 es store) (keeps-moved o p (rewritten 1 es store))

pub keeps-released : (refs : List ℕ) (store : Store) → KeepsObjects store (once_released refs store)
keeps-released [] store = keeps_all store
keeps-released (o ∷ refs) store = record { objects = none-unheld (o ∷ []) store; names = (refl, refl) }

-- objects that stay except for their places
pub keeps-same : (old new : Store) → IsSameButPlaces old new → KeepsObjects old new
keeps-same old new same = record { objects = none-mapped old new (λ s n. unwrap_or (fin.get new.nodes s) n) nodes same.names; names = (same.names, same.last) }
  where
    known : (a b : Option Node) → IsSameNode a b → option_map (λ n. unwrap_or b n) a ≡ b
    known None None h = refl
    known (Some n) (Some m) h = refl
    known a b h = absurd h

    nodes : new.nodes ≡ mapped (λ s n. unwrap_or (fin.get new.nodes s) n) old.nodes
    nodes =
        same_map new.nodes (mapped (λ s n. unwrap_or (fin.get new.nodes s) n) old.nodes)
        (λ q. sym (get-mapped (λ s n. unwrap_or (fin.get new.nodes s) n) old.nodes q ∙ known (fin.get old.nodes q) (fin.get new.nodes q) (same.nodes q)))
