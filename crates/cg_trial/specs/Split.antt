-- What `split` requires, and its effect. (Developer guide, "identifying reference cycles": the unreachable objects are
-- moved to a list of their own, and the reachable ones stay.)
use Rattle.std.specs.Prelude.{◌≡◌, ℕ, ◌≤◌, Option, Some, None, length, sum_by}
use Rattle.std.specs.FinMap as fin
use Rattle.cg_value.specs.declared.Place.{Place}
use Rattle.cg_value.specs.declared.Place.TheVariants.{Gen, Cand, Back}
use Rattle.cg_graph.specs.Object.{objects_at}
use Rattle.cg_graph.specs.Store.{Store, Node, objects_of}

-- a generation, or the candidates
abbrev pub IsSplitPlace : Place → Type 0
IsSplitPlace (Gen i) = i ≤ 2
IsSplitPlace Cand = Unit {0}
IsSplitPlace place = ⊥

-- the final place of the reachable objects
abbrev pub kept_place : Place → Place
kept_place Cand = Back
kept_place place = place

-- the number of entries of the objects of a place
abbrev pub entry_number_at : Store → Place → ℕ
entry_number_at store p = sum_by (λ x. length x.entries) (objects_at (objects_of store) p)

-- a node is unchanged except for its place and the collector's number
abbrev pub IsSameNode : Option Node → Option Node → Type 0
IsSameNode None None = Unit {0}
IsSameNode (Some n) (Some m) = m ≡ record n { place = m.place; number = m.number }
IsSameNode n m = ⊥

-- Objects are unchanged except for places and the collector's numbers; names, the last serial and rows are unchanged.
pub record IsSameButPlaces (old new : Store) : Type 0 where
  pub nodes : (s : ℕ) → IsSameNode (fin.get old.nodes s) (fin.get new.nodes s)
  pub last : new.last ≡ old.last
  pub names : new.names ≡ old.names
  pub rows : new.rows ≡ old.rows
