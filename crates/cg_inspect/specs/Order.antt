-- Which of the shortest paths is told: the first in the order of serials and entries. (Ours.)
use Rattle.std.specs.Prelude.{◌≡◌, ◌==◌, ℕ, suc, ◌<◌, ◌⊎◌, List, [], ◌∷◌, if◌then◌else◌}
use Rattle.cg_graph.specs.Value.{references}
use Rattle.cg_graph.specs.Path.{IsShortestPath}
use Rattle.cg_graph.specs.Store.{Store, entries_of}
use Rattle.cg_inspect.specs.Inspection.{HeldElse, arrows_of}
use Rattle.cg_inspect.specs.declared.reason.Why.{Why}
use Rattle.cg_inspect.specs.declared.reason.Why.TheVariants as reason

-- the references of an object, in the order of its entries, the value before the key
abbrev pub references_by : Store → ℕ → List ℕ
references_by store o = references (entries_of store o)

-- the position of the first reference to an object, past the last where there is none
abbrev pub position_among : List ℕ → ℕ → ℕ
position_among [] o = 0
position_among (r ∷ refs) o = if r == o then 0 else suc (position_among refs o)

-- Where two paths part, the one has the lower number. The first objects have these numbers; each next has its position among the
-- references of the object before.
abbrev pub PartsBefore : (ℕ → ℕ) → (ℕ → List ℕ) → List ℕ → List ℕ → Type 0
PartsBefore number refs [] other = ⊥
PartsBefore number refs (o ∷ path) [] = ⊥
PartsBefore number refs (o ∷ path) (p ∷ other) = (number o < number p) ⊎ ((o ≡ p) × PartsBefore (position_among (refs o)) refs path other)

-- One path comes before another: by the serials of their first objects, and then by the references that they follow.
abbrev pub ComesBefore : (ℕ → List ℕ) → List ℕ → List ℕ → Type 0
ComesBefore refs path other = PartsBefore (λ serial. serial) refs path other

-- A path comes first: each other shortest path comes after it.
abbrev pub ComesFirst : Store → ℕ → List ℕ → Type 0
ComesFirst store object path = (other : List ℕ) → IsShortestPath (HeldElse store object) (arrows_of store) other object
    → (other ≡ path) ⊎ ComesBefore (references_by store) path other

-- the path that is told comes first
abbrev pub IsFirst : Store → ℕ → Why → Type 0
IsFirst store object (reason.Path path) = ComesFirst store object path.items
IsFirst store object reason.Unreachable = Unit {0}
