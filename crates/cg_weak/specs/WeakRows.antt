-- What contracts see of a table of weak references.
use Rattle.std.specs.Prelude.{ℕ, List}
use Rattle.cg_graph.specs.Rows.{Row}

-- the rows in ascending order of weak reference, and how many more fit without allocating
pub record WeakRows : Type 0 where
  pub rows : List Row
  pub room : ℕ
