-- A number for each object, to compute how often it is held. (Developer guide, "identifying reference cycles": `gc_refs`,
-- the count less the references seen.)
use Rattle.std.specs.Prelude.{◌≡◌, ℕ, ◌-◌, List, Option, Some, nat_eq, option_map}
use Rattle.std.specs.Map.{lookup}
use Rattle.cg_graph.specs.Member.{Includes}
use Rattle.cg_graph.specs.Holdings.{occurrences}

-- the number of an object, if it has one
abbrev pub number_of : List (ℕ × ℕ) → ℕ → Option ℕ
number_of numbers o = lookup (nat_eq o) numbers

-- each of the objects has its number
abbrev pub AreNumbers : (ℕ → ℕ) → List ℕ → List (ℕ × ℕ) → Type 0
AreNumbers number objects numbers = (o : ℕ) → Includes objects o → number_of numbers o ≡ Some (number o)

-- each number is lowered by the occurrences of its object among the references
abbrev pub AreLowered : List ℕ → List (ℕ × ℕ) → List (ℕ × ℕ) → Type 0
AreLowered refs old new = (o : ℕ) → number_of new o ≡ option_map (λ n. n - occurrences o refs) (number_of old o)
