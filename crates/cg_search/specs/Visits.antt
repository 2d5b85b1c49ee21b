-- The effect of a search step on its marks and its work list. (Ours.)
use Rattle.std.specs.Prelude.{◌≡◌, ℕ, ◌+◌, Bool, not, List, length, count_by, ◌⊎◌}
use Rattle.cg_graph.specs.Member.{Includes}
use Rattle.cg_search.specs.Places.{Marks}

-- Some targets were visited: the allowed ones are now marked, and the newly marked ones wait.
pub record Visits (Target : ℕ → Type 0) (allowed old : List Bool) (waits : List ℕ) (new : List Bool) (wait : List ℕ) : Type 0 where
  pub len : length new ≡ length old
  pub marked : (i : ℕ) → Target i → Marks allowed i → Marks new i
  pub stay : (i : ℕ) → Marks old i → Marks new i
  pub only : (i : ℕ) → Marks new i → Marks old i ⊎ (Target i × Marks allowed i × Includes wait i)
  pub still_wait : (i : ℕ) → Includes waits i → Includes wait i
  pub only_wait : (i : ℕ) → Includes wait i → Includes waits i ⊎ Marks new i
  pub left : count_by not new + length wait ≡ count_by not old + length waits
