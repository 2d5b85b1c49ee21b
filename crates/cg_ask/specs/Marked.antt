-- Marks that represent a set of members, and rows that are appended. (Ours.)
use Rattle.std.specs.Prelude.{◌≡◌, ℕ, Bool, cond, List, [], ◌∷◌, ◌++◌, length, ◌↔◌}
use Rattle.cg_search.specs.Places.{Marks, is_marked}
use Rattle.cg_ask.specs.Answers.{Row, Tells, rows_text}

-- exactly the places of the set are marked
pub record MarkJust (count : ℕ) (P : ℕ → Type 0) (marks : List Bool) : Type 0 where
  pub len : length marks ≡ count
  pub just : (i : ℕ) → Marks marks i ↔ P i

-- rows that list exactly what is to be printed were appended
pub record AppendsRows (P : ℕ → List ℕ → Type 0) (word old new : List ℕ) : Type 0 where
  pub rows : List Row
  pub tells : Tells P rows
  pub text : new ≡ old ++ rows_text word rows

-- 1 if a place is marked, else 0
abbrev pub flags_of : List Bool → ℕ → List ℕ
flags_of marks i = cond (is_marked marks i) 1 0 ∷ []
