-- What dies by count alone. (Reference manual, "object.__del__"; developer guide, "reference counting": an object is
-- freed when its count falls to 0.)
use Rattle.std.specs.Prelude.{◌≡◌, ℕ, ◌<◌, Bool, List, map, length, slice_index}
use Rattle.cg_graph.specs.Holdings.{occurrences}
use Rattle.cg_search.specs.Places.{Marks}
use Rattle.cg_search.specs.Counts.{targets_from}
use Rattle.cg_snapshot.specs.declared.heap.Member.{Member}

-- A set of members is closed if it has the given ones, and each member whose in-degree, above 0, is the number of its
-- occurrences among the references of those in the set.
pub record IsClosed (ms : List Member) (Given : ℕ → Type 0) (set : List Bool) : Type 0 where
  pub len : length set ≡ length ms
  pub given : (o : ℕ) → Given o → Marks set o
  pub dies : (o : ℕ) → 0 < slice_index (map (λ m. m.degree) ms) o
      → occurrences o (targets_from set (map (λ m. m.refs) ms)) ≡ slice_index (map (λ m. m.degree) ms) o → Marks set o

-- the least such set
abbrev pub Dies : List Member → (ℕ → Type 0) → ℕ → Type 0
Dies ms Given o = (set : List Bool) → IsClosed ms Given set → Marks set o
