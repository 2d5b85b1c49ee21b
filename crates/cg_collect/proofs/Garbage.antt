-- The garbage list stays untracked while other objects move.
use Rattle.std.proofs.Common.{◌≡◌, ◌≢◌, sym, ◌∙◌, ap, ℕ, false, Option, Some, None}
use Rattle.std.specs.Prelude.{◌==◌, if◌then◌else◌, option_map}
use Rattle.std.specs.FinMap as fin
use Rattle.cg_value.specs.declared.Place.{Place}
use Rattle.cg_value.specs.declared.Place.TheVariants.{Untracked}
use Rattle.cg_graph.specs.Places.{place_number}
use Rattle.cg_graph.specs.Store.{Store, Node, place_of, place_in}
use Rattle.cg_graph.specs.Changes.{moved, with_place}
use Rattle.cg_graph.proofs.Maps.{get-mapped, get-changed_other}
use Rattle.cg_heap.specs.Calls.{merged, place_merged}

-- an object that is tracked is another
pub not_garbage : (store : Store) (o : ℕ) (p : Place) → place_of store 1 ≡ Untracked → place_of store o ≡ p → Untracked ≢ p → 1 ≢ o
not_garbage store o p garbage at tracked e = tracked (sym garbage ∙ ap (place_of store) e ∙ at)

pub garbage-moved : (store : Store) (o : ℕ) (p q : Place) → place_of store 1 ≡ Untracked → place_of store o ≡ p → Untracked ≢ p → place_of (moved o q store) 1 ≡ Untracked
garbage-moved store o p q garbage at tracked = ap place_in (get-changed_other (with_place q) o store.nodes 1 (not_garbage store o p garbage at tracked)) ∙ garbage

pub garbage-merged : (store : Store) (p q : Place) → (place_number Untracked == place_number p) ≡ false → place_of store 1 ≡ Untracked → place_of (merged p q store) 1 ≡ Untracked
garbage-merged store p q other garbage = ap place_in (get-mapped (λ s n. place_merged p q n) store.nodes 1) ∙ known (fin.get store.nodes 1) garbage
  where
    known : (x : Option Node) → place_in x ≡ Untracked → place_in (option_map (place_merged p q) x) ≡ Untracked
    known None at = at
    known (Some n) at = ap (λ b. (if b then with_place q n else n).place) (ap (λ k. place_number k == place_number p) at ∙ other) ∙ at
