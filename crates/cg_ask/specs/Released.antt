-- The effect of a step of dying by count. (Ours.)
use Rattle.std.specs.Prelude.{◌≡◌, ℕ, ◌+◌, Bool, cond, List, length, slice_index, count_by, not, ◌⊎◌}
use Rattle.cg_graph.specs.Member.{Includes}
use Rattle.cg_graph.specs.Holdings.{occurrences}
use Rattle.cg_search.specs.Places.{Marks, is_marked}

-- 1 for a marked place, else 0
abbrev pub mark_at : List Bool → ℕ → ℕ
mark_at marks i = cond (is_marked marks i) 1 0

-- exactly the marked places wait, each once
abbrev pub WaitOnce : List Bool → List ℕ → Type 0
WaitOnce marks waits = (i : ℕ) → occurrences i waits ≡ mark_at marks i

-- References to these targets were released: each number falls by the occurrences of its place, and a place that this
-- brings to 0 is now dead, and waits unless it was dead before.
pub record Releases (targets left : List ℕ) (dead : List Bool) (waits now : List ℕ) (then : List Bool) (wait : List ℕ) : Type 0 where
  pub len : length now ≡ length left
  pub long : length then ≡ length dead
  pub leaves : (i : ℕ) → slice_index now i + occurrences i targets ≡ slice_index left i
  pub stay : (i : ℕ) → Marks dead i → Marks then i
  pub falls : (i : ℕ) → Includes targets i → slice_index now i ≡ 0 → Marks then i
  pub only : (i : ℕ) → Marks then i → Marks dead i ⊎ (Includes targets i × (slice_index now i ≡ 0))
  pub waiting : (i : ℕ) → occurrences i wait + mark_at dead i ≡ occurrences i waits + mark_at then i
  pub measure : count_by not then + length wait ≡ count_by not dead + length waits
