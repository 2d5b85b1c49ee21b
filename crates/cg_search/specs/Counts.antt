-- How often places are targets. (Ours.)
use Rattle.std.specs.Prelude.{◌≡◌, ℕ, ◌+◌, ◌<◌, Bool, List, [], ◌∷◌, ◌++◌, length, slice_index, if◌then◌else◌}
use Rattle.cg_graph.specs.Holdings.{occurrences}

-- the targets of the marked nodes
abbrev pub targets_from : List Bool → List (List ℕ) → List ℕ
targets_from [] rows = []
targets_from (mark ∷ marks) [] = []
targets_from (mark ∷ marks) (row ∷ rows) = (if mark then row else []) ++ targets_from marks rows

-- each number grows by how often its place is a target
pub record Adds (old targets new : List ℕ) : Type 0 where
  pub len : length new ≡ length old
  pub adds : (i : ℕ) → i < length old → slice_index new i ≡ slice_index old i + occurrences i targets
