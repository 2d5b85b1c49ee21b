-- What the phases leave of the rest of a heap.
use Rattle.std.proofs.Common.{◌≡◌, refl, sym, ◌∙◌, ap, subst, ℕ, Bool, true, false, List, [], ◌∷◌, arith}
use Rattle.std.specs.Prelude.{if◌then◌else◌, is_some}
use Rattle.cg_value.specs.declared.Entry.{Entry}
use Rattle.cg_value.specs.declared.Place.{Place}
use Rattle.cg_graph.specs.Value.{entry_references}
use Rattle.cg_graph.specs.Rows.{referent_in}
use Rattle.cg_graph.specs.Store.{Store}
use Rattle.cg_graph.specs.Changes.{held, unheld, rewritten, moved, gone}
use Rattle.cg_heap.specs.Calls.{with_node, marked}
use Rattle.cg_heap.specs.Weak.{cleared_weak, forgotten_weak}
use Rattle.cg_heap.proofs.ReferenceLemmas.{entry-le}
use Rattle.cg_heap.proofs.CallerLemmas.{total-held, total-unheld, total-gone, total-with_node, total-rewritten, total-moved}
use Rattle.cg_death.specs.Deaths.{forgets_referent}
use Rattle.cg_death.specs.Answers.{MakesNone}
use Rattle.cg_death.specs.Steady.{TakesFewHolds, KeepsNames}
use Rattle.cg_death.specs.Turns.{LeavesTheRest}
use Rattle.cg_death.proofs.ObjectNumbers.{none_then, none-held, none-unheld, none-moved, none-cleared, none-forgotten, none-taken, none-gone, none-own_frame}

leaves : {old new : Store} → MakesNone old new → TakesFewHolds old new → KeepsNames old new → LeavesTheRest old new
leaves objects holds names = record { objects = objects; holds = holds; names = names }

pub rest-same : (store : Store) → LeavesTheRest store store
rest-same store = leaves (record { objects = omega arith; names = refl }) (omega arith) (refl, refl)

pub rest-unheld : (refs : List ℕ) (store : Store) → LeavesTheRest store (unheld refs store)
rest-unheld refs store = leaves (none-unheld refs store) (omega (arith, total-unheld refs store)) (refl, refl)

pub rest-taken : (e : Entry) (o : ℕ) (es : List Entry) (store : Store) → LeavesTheRest store (held (entry_references e) (rewritten o es store))
rest-taken e o es store = leaves (none-taken (entry_references e) o es store)
    (omega (arith, total-held (entry_references e) (rewritten o es store), total-rewritten o es store, entry-le e)) (refl, refl)

pub rest-gone : (o : ℕ) (store : Store) → LeavesTheRest store (gone o store)
rest-gone o store = leaves (none-gone o store) (omega (arith, total-gone o store)) (refl, refl)

pub rest-own_frame : (o : ℕ) (p : Place) (store : Store) → LeavesTheRest store (held (o ∷ []) (with_node marked o (moved o p store)))
rest-own_frame o p store = leaves (none-own_frame marked o p store)
    (omega (arith, total-held (o ∷ []) (with_node marked o (moved o p store)), total-with_node marked (λ n. refl) o (moved o p store), total-moved o p store)) (refl, refl)

pub rest-legacy_frame : (o : ℕ) (p : Place) (store : Store) → LeavesTheRest store (held (o ∷ []) (moved o p store))
rest-legacy_frame o p store = leaves (none_then _ _ _ (none-moved o p store) (none-held (o ∷ []) (moved o p store)))
    (omega (arith, total-held (o ∷ []) (moved o p store), total-moved o p store)) (refl, refl)

pub rest-frame_ended : (b : Bool) (o : ℕ) (p : Place) (store : Store) → LeavesTheRest store (if b then moved o p (unheld (o ∷ []) store) else unheld (o ∷ []) store)
rest-frame_ended true o p store = leaves (none_then _ _ _ (none-unheld (o ∷ []) store) (none-moved o p (unheld (o ∷ []) store)))
    (omega (arith, total-moved o p (unheld (o ∷ []) store), total-unheld (o ∷ []) store)) (refl, refl)
rest-frame_ended false o p store = rest-unheld (o ∷ []) store

pub rest-begun : (o : ℕ) (p : Place) (store mid new : Store) → mid ≡ moved o p store → new ≡ forgets_referent o mid → LeavesTheRest store new
rest-begun o p store mid new is_mid is = subst (LeavesTheRest store) (sym (is ∙ ap (forgets_referent o) is_mid)) (known (is_some (referent_in store.rows o)))
  where
    known : (b : Bool) → LeavesTheRest store (if b then cleared_weak o false (moved o p store) else moved o p store)
    known true = leaves (none_then _ _ _ (none-moved o p store) (none-cleared o false (moved o p store))) (omega (arith, total-moved o p store)) (refl, refl)
    known false = leaves (none-moved o p store) (omega (arith, total-moved o p store)) (refl, refl)

pub rest-lost : (b : Bool) (weak : ℕ) (store : Store) → LeavesTheRest store (if b then cleared_weak weak true (held (weak ∷ []) store) else cleared_weak weak false store)
rest-lost true weak store = leaves (none_then _ _ _ (none-held (weak ∷ []) store) (none-cleared weak true (held (weak ∷ []) store)))
    (omega (arith, total-held (weak ∷ []) store)) (refl, refl)
rest-lost false weak store = leaves (none-cleared weak false store) (omega arith) (refl, refl)

pub rest-called : (weak callback : ℕ) (store : Store) → LeavesTheRest store (forgotten_weak weak (held (callback ∷ []) (rewritten weak [] store)))
rest-called weak callback store =
    leaves (none_then _ _ _ (none-taken (callback ∷ []) weak [] store) (none-forgotten weak (held (callback ∷ []) (rewritten weak [] store))))
    (omega (arith, total-held (callback ∷ []) (rewritten weak [] store), total-rewritten weak [] store)) (refl, refl)
