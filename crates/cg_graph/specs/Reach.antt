-- Which members of a set are held from outside, which are reachable from those, and which are unreachable. (Developer
-- guide, "identifying reference cycles". It says what the collector finds, not how.)
use Rattle.std.specs.Prelude.{ℕ, ◌<◌, List, map, flat_map}
use Rattle.cg_graph.specs.declared.Edge.{Edge}
use Rattle.cg_graph.specs.Member.{Includes}
use Rattle.cg_graph.specs.Value.{references}
use Rattle.cg_graph.specs.Holdings.{Graph, occurrences, entry_holdings}

-- one edge for each reference of an entry
abbrev pub edges : Graph → List Edge
edges graph = flat_map (λ n. map (λ r. record { from = n.0; to = r }) (references n.1)) graph

-- A path of members leads to its last: the first is held, and each next is referenced by an entry of the one before.
pub data Reach (Held Inside : ℕ → Type 0) (arrows : List Edge) : ℕ → Type 0 where
  first : {o : ℕ} → Held o → Inside o → Reach Held Inside arrows o
  next : {o p : ℕ} → Reach Held Inside arrows o → Includes arrows (record { from = o; to = p }) → Inside p → Reach Held Inside arrows p

-- a member that no such path reaches
pub record Unreachable (Held Inside : ℕ → Type 0) (arrows : List Edge) (o : ℕ) : Type 0 where
  pub member : Inside o
  pub no_path : ¬ Reach Held Inside arrows o

-- A member is held from outside if its holds outnumber its occurrences in the members' entries.
abbrev pub IsOutsideHeld : List ℕ → Graph → ℕ → Type 0
IsOutsideHeld holdings members o = occurrences o (entry_holdings members) < occurrences o holdings
