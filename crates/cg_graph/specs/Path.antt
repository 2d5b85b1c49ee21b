-- Why an object is alive: a path of holders that leads to it from an object held by a root. (Ours. `gc.get_referrers`
-- gives one step of it.)
use Rattle.std.specs.Prelude.{◌≡◌, ℕ, ◌<◌, ◌≤◌, Bool, List, [], ◌∷◌, length}
use Rattle.cg_graph.specs.declared.Edge.{Edge}
use Rattle.cg_graph.specs.Member.{Includes, includes}
use Rattle.cg_graph.specs.Value.{references}
use Rattle.cg_graph.specs.Object.{Object}
use Rattle.cg_graph.specs.Holdings.{occurrences}

-- whether an entry of an object holds it, by its value or its key (`gc` manual, `gc.get_referrers`)
abbrev pub refers_to : ℕ → Object → Bool
refers_to o x = includes (references x.entries) o

-- A root other than the queried name holds an object. The queried name holds the object of the question once. The
-- first argument counts the holds of roots: names, the garbage root, and work in progress.
abbrev pub IsHeldElse : (ℕ → ℕ) → ℕ → ℕ → Type 0
IsHeldElse holdings object o = occurrences o (object ∷ []) < holdings o

-- each next object is referenced by an entry of the one before, and the last is the object
abbrev pub LeadsTo : List Edge → ℕ → List ℕ → ℕ → Type 0
LeadsTo arrows last [] object = last ≡ object
LeadsTo arrows from (next ∷ path) object = Includes arrows (record { from = from; to = next }) × LeadsTo arrows next path object

-- a path of holders whose first is held by a root
abbrev pub IsPath : (ℕ → Type 0) → List Edge → List ℕ → ℕ → Type 0
IsPath Held arrows [] object = ⊥
IsPath Held arrows (first ∷ path) object = Held first × LeadsTo arrows first path object

-- a shortest path
pub record IsShortestPath (Held : ℕ → Type 0) (arrows : List Edge) (path : List ℕ) (object : ℕ) : Type 0 where
  pub leads : IsPath Held arrows path object
  pub shortest : (other : List ℕ) → IsPath Held arrows other object → length path ≤ length other

-- there is no path of holders
abbrev pub HasNoPath : (ℕ → Type 0) → List Edge → ℕ → Type 0
HasNoPath Held arrows object = (path : List ℕ) → ¬ IsPath Held arrows path object
