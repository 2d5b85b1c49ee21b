-- A change never adds objects, and names stay.
use Rattle.std.proofs.Common.{◌≡◌, refl, ◌∙◌, ap, ℕ, ◌≤◌, Bool, true, false, cond, not, List, [], ◌∷◌, map, length, arith}
use Rattle.std.specs.Prelude.{◌==◌, if◌then◌else◌, filter}
use Rattle.std.specs.FinMap as fin
use Rattle.cg_value.specs.declared.Entry.{Entry}
use Rattle.cg_value.specs.declared.Place.{Place}
use Rattle.cg_graph.specs.Maps.{mapped, changed}
use Rattle.cg_graph.specs.Holdings.{occurrences}
use Rattle.cg_graph.specs.Store.{Store, Node, objects_of, object_from}
use Rattle.cg_graph.specs.Changes.{held, more, unheld, less, rewritten, with_entries, moved, with_place, gone}
use Rattle.cg_graph.proofs.Maps.{entries-mapped}
use Rattle.cg_graph.proofs.Objects.{entries-remove}
use Rattle.cg_heap.specs.Calls.{with_node}
use Rattle.cg_heap.specs.Weak.{cleared_weak, forgotten_weak}
use Rattle.cg_death.specs.Answers.{MakesNone}

-- as many objects as nodes
length-objects : (store : Store) → length (objects_of store) ≡ length (fin.entries store.nodes)
length-objects store = each (fin.entries store.nodes)
  where
    each : (es : List (ℕ × Node)) → length (map (λ e. object_from store.rows e.0 e.1) es) ≡ length es
    each [] = refl
    each (e ∷ es) = omega (arith, each es)

-- the nodes decide
pub none_by_nodes : (old new : Store) → length (fin.entries new.nodes) ≤ length (fin.entries old.nodes) → new.names ≡ old.names → MakesNone old new
none_by_nodes old new fewer names = record { objects = omega (arith, fewer, length-objects old, length-objects new); names = names }

pub none-same : (old new : Store) → new.nodes ≡ old.nodes → new.names ≡ old.names → MakesNone old new
none-same old new same names =
    let equal : length (fin.entries new.nodes) ≡ length (fin.entries old.nodes) = ap (λ m. length (fin.entries m)) same in
    none_by_nodes old new (omega (arith, equal)) names

pub none-mapped : (old new : Store) (g : ℕ → Node → Node) → new.nodes ≡ mapped g old.nodes → new.names ≡ old.names → MakesNone old new
none-mapped old new g is names =
    let equal : length (fin.entries new.nodes) ≡ length (fin.entries old.nodes) = ap (λ m. length (fin.entries m)) is ∙ ap (λ (es : List (ℕ × Node)). length es)
    (entries-mapped g old.nodes) ∙ each (fin.entries old.nodes) in
    none_by_nodes old new (omega (arith, equal)) names
  where
    each : (es : List (ℕ × Node)) → length {A = ℕ × Node} (map (λ (e : ℕ × Node). (e.0, g e.0 e.1)) es) ≡ length es
    each [] = refl
    each (e ∷ es) = omega (arith, each es)

pub none_then : (old mid new : Store) → MakesNone old mid → MakesNone mid new → MakesNone old new
none_then old mid new first next = record { objects = omega (arith, first.objects, next.objects); names = next.names ∙ first.names }

pub none-held : (refs : List ℕ) (store : Store) → MakesNone store (held refs store)
none-held refs store = none-mapped store (held refs store) (λ s n. more (occurrences s refs) n) refl refl

pub none-unheld : (refs : List ℕ) (store : Store) → MakesNone store (unheld refs store)
none-unheld refs store = none-mapped store (unheld refs store) (λ s n. less (occurrences s refs) n) refl refl

pub none-changed : (f : Node → Node) (o : ℕ) (old new : Store) → new.nodes ≡ changed f o old.nodes → new.names ≡ old.names → MakesNone old new
none-changed f o old new is names = none-mapped old new (λ s n. if s == o then f n else n) is names

pub none-moved : (o : ℕ) (p : Place) (store : Store) → MakesNone store (moved o p store)
none-moved o p store = none-changed (with_place p) o store (moved o p store) refl refl

pub none-rewritten : (o : ℕ) (es : List Entry) (store : Store) → MakesNone store (rewritten o es store)
none-rewritten o es store = none-changed (with_entries es) o store (rewritten o es store) refl refl

fewer_left : {X : Type 0} (p : X → Bool) (xs : List X) → length (filter p xs) ≤ length xs
fewer_left p [] = omega arith
fewer_left p (x ∷ xs) = one (p x) (fewer_left p xs)
  where
    one : (b : Bool) → length (filter p xs) ≤ length xs → length (cond b (x ∷ filter p xs) (filter p xs)) ≤ length (x ∷ xs)
    one true fewer = omega (arith, fewer)
    one false fewer = omega (arith, fewer)

pub none-gone : (o : ℕ) (store : Store) → MakesNone store (gone o store)
none-gone o store =
    let is : length (fin.entries (fin.remove store.nodes o)) ≡ length (filter (λ e. not (e.0 == o)) (fin.entries store.nodes)) =
    ap (λ (es : List (ℕ × Node)). length es) (entries-remove store.nodes o) in
    none_by_nodes store (gone o store) (omega (arith, is, fewer_left (λ (e : ℕ × Node). not (e.0 == o)) (fin.entries store.nodes))) refl

-- a weak reference may be cleared, or stop waiting
pub none-cleared : (weak : ℕ) (wait : Bool) (store : Store) → MakesNone store (cleared_weak weak wait store)
none-cleared weak wait store = none-same store (cleared_weak weak wait store) refl refl

pub none-forgotten : (weak : ℕ) (store : Store) → MakesNone store (forgotten_weak weak store)
none-forgotten weak store = none-same store (forgotten_weak weak store) refl refl

-- what the phases do, one change after the other
pub none-taken : (refs : List ℕ) (o : ℕ) (es : List Entry) (store : Store) → MakesNone store (held refs (rewritten o es store))
none-taken refs o es store = none_then store (rewritten o es store) (held refs (rewritten o es store)) (none-rewritten o es store) (none-held refs (rewritten o es store))

pub none-own_frame : (f : Node → Node) (o : ℕ) (p : Place) (store : Store) → MakesNone store (held (o ∷ []) (with_node f o (moved o p store)))
none-own_frame f o p store =
    none_then store (moved o p store) (held (o ∷ []) (with_node f o (moved o p store))) (none-moved o p store)
    (none_then (moved o p store) (with_node f o (moved o p store)) (held (o ∷ []) (with_node f o (moved o p store)))
    (none-changed f o (moved o p store) (with_node f o (moved o p store)) refl refl) (none-held (o ∷ []) (with_node f o (moved o p store))))
