-- The rows of weak references in a heap. (`weakref` manual; the rows are ours.)
use Rattle.std.specs.Prelude.{◌≡◌, ◌≢◌, ℕ, Bool, Option, Some, None, IsSome, List, [], ◌∷◌, ◌++◌, if◌then◌else◌}
use Rattle.std.specs.List.{All}
use Rattle.cg_value.specs.declared.KindCode.{KindCode}
use Rattle.cg_value.specs.declared.KindCode.TheVariants.{Weak}
use Rattle.cg_graph.specs.Rows.{Row, IsRising, new_row, with_row_waiting, without_row}
use Rattle.cg_graph.specs.Store.{Store, IsLive, HasCode}

-- Exactly a weak reference may have a referent.
abbrev pub HasReferent : KindCode → Option ℕ → Type 0
HasReferent Weak referent = IsSome referent
HasReferent code referent = referent ≡ None

-- The invariant of the rows: they are in ascending order of weak reference, each weak reference is a live object of
-- that kind, and each referent lives, even one whose weak reference waits.
pub record AreRows (store : Store) : Type 0 where
  pub rise : IsRising store.rows
  pub weak : All (λ r. HasCode store r.weak Weak) store.rows
  pub referent : All (λ r. IsLive store r.referent) store.rows

-- no row is that of an object or has it as referent, waiting or not
abbrev pub IsInNoRow : ℕ → List Row → Type 0
IsInNoRow o rows = All (λ r. (r.weak ≢ o) × (r.referent ≢ o)) rows

-- the rows, with the row of a new weak reference if it has a referent
abbrev pub with_new_row : ℕ → Option ℕ → List Row → List Row
with_new_row weak None rows = rows
with_new_row weak (Some referent) rows = rows ++ new_row weak referent ∷ []

-- A weak reference gets its referent: its row goes last, not waiting.
abbrev pub attached : ℕ → Option ℕ → Store → Store
attached weak referent store = record store { rows = with_new_row weak referent store.rows }

-- A weak reference loses its referent: its row now waits with it, or is removed. (`weakref` manual: an object about to
-- be finalized is no longer available to its weak references when their callbacks run.)
abbrev pub cleared_weak : ℕ → Bool → Store → Store
cleared_weak weak wait store = record store { rows = if wait then with_row_waiting weak store.rows else without_row weak store.rows }

-- a waiting weak reference stops waiting
abbrev pub forgotten_weak : ℕ → Store → Store
forgotten_weak weak store = record store { rows = without_row weak store.rows }
