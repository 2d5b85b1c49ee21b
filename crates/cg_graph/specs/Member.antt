-- List membership. (Ours. std's `Contains` says the same by position; this is by recursion, as walks and runs are.)
use Rattle.std.specs.Prelude.{◌≡◌, ℕ, Bool, List, [], ◌∷◌, ◌==◌, ◌⊎◌}
use Rattle.std.specs.List.{list_any}

-- x is an element of the list
abbrev pub Includes : {X : Type 0} → List X → X → Type 0
Includes [] x = ⊥
Includes (y ∷ xs) x = (y ≡ x) ⊎ Includes xs x

-- whether a number is in a list of numbers
abbrev pub includes : List ℕ → ℕ → Bool
includes xs n = list_any (λ x. x == n) xs
