-- What `freeze` and `unfreeze` do to a heap. (`gc.freeze`, `gc.unfreeze`.)
use Rattle.std.specs.Prelude.{◌≡◌, ℕ, map, length}
use Rattle.cg_value.specs.declared.Place.{Place}
use Rattle.cg_value.specs.declared.Place.TheVariants.{Pend}
use Rattle.cg_graph.specs.Object.{with_place}
use Rattle.cg_graph.specs.Store.{Store, objects_of, outside_of, list_at}
use Rattle.cg_heap.specs.Keeps.{outside_total}

-- Only places change: there are as many objects and outside holds as before. (Ours.)
pub record KeepsAllButPlaces (old new : Store) : Type 0 where
  pub last : new.last ≡ old.last
  pub names : new.names ≡ old.names
  pub rows : new.rows ≡ old.rows
  pub objects : length (objects_of new) ≡ length (objects_of old)
  pub holds : outside_total new ≡ outside_total old

-- Each object moves to a place that depends on its own; nothing else changes. The waiting weak references still wait in
-- the same order. (Ours.)
pub record Replaces (places : Place → Place) (old new : Store) : Type 0 where
  pub objects : objects_of new ≡ map (λ x. with_place (places x.place) x) (objects_of old)
  pub outside : (s : ℕ) → outside_of new s ≡ outside_of old s
  pub waiting : list_at new Pend ≡ list_at old Pend
  pub keeps : KeepsAllButPlaces old new
