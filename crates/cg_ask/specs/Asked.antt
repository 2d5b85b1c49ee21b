-- The questions about a recorded heap, over its members by place. (Developer guide, "identifying reference cycles";
-- the questions are ours.)
use Rattle.std.specs.Prelude.{ℕ, ◌-◌, ◌<◌, ◌≤◌, Bool, List, [], ◌++◌, map, length, slice_index, slice_index_or, ◌⊎◌}
use Rattle.std.specs.List.{concat}
use Rattle.cg_graph.specs.declared.Edge.{Edge}
use Rattle.cg_graph.specs.Member.{Includes}
use Rattle.cg_graph.specs.Holdings.{occurrences}
use Rattle.cg_graph.specs.Reach.{Reach, Unreachable}
use Rattle.cg_graph.specs.Path.{IsPath}
use Rattle.cg_search.specs.Places.{Marks, edges_of}
use Rattle.cg_search.specs.Counts.{targets_from}
use Rattle.cg_snapshot.specs.declared.heap.Member.{Member}
use Rattle.cg_ask.specs.Dying.{Dies}

-- the references of each member
abbrev pub rows_of : List Member → List (List ℕ)
rows_of ms = map (λ m. m.refs) ms

-- the untold words of each member
abbrev pub words_of : List Member → List (List ℕ)
words_of ms = map (λ m. m.untold) ms

-- all references of members
abbrev pub references_of : List Member → List ℕ
references_of ms = concat (rows_of ms)

-- all their untold words
abbrev pub all_words_of : List Member → List ℕ
all_words_of ms = concat (words_of ms)

abbrev pub degrees_of : List Member → List ℕ
degrees_of ms = map (λ m. m.degree) ms

-- the in-degree of the member at a place
abbrev pub degree_at : List Member → ℕ → ℕ
degree_at ms o = slice_index (degrees_of ms) o

-- how often the member at a place is held from outside: its in-degree minus its occurrences among the members'
-- references
abbrev pub outside_at : List Member → ℕ → ℕ
outside_at ms o = degree_at ms o - occurrences o (references_of ms)

-- how often the member at a place refers to another
abbrev pub times_at : List Member → ℕ → ℕ → ℕ
times_at ms m o = occurrences o (slice_index_or (rows_of ms) m [])

-- there is a member at a place
abbrev pub IsMember : List Member → ℕ → Type 0
IsMember ms o = o < length ms

-- it is held from outside: its in-degree exceeds its occurrences among the members' references
abbrev pub IsHeld : List Member → ℕ → Type 0
IsHeld ms o = occurrences o (references_of ms) < degree_at ms o

-- one edge for each reference of a member
abbrev pub edges : List Member → List Edge
edges ms = edges_of (rows_of ms)

-- a path of members leads to it from one held from outside
abbrev pub IsReached : List Member → ℕ → Type 0
IsReached ms o = Reach (IsHeld ms) (IsMember ms) (edges ms) o

-- no such path leads to the member
abbrev pub IsLost : List Member → ℕ → Type 0
IsLost ms o = Unreachable (IsHeld ms) (IsMember ms) (edges ms) o

-- a member outside this list
abbrev pub IsOther : List Member → List ℕ → ℕ → Type 0
IsOther ms without o = IsMember ms o × ¬ Includes without o

-- a path of members, none in this list: the first is held from outside, each next is a reference of the one before
pub record IsWay (ms : List Member) (without path : List ℕ) (object : ℕ) : Type 0 where
  pub leads : IsPath (IsHeld ms) (edges ms) path object
  pub others : (o : ℕ) → Includes path o → IsOther ms without o

-- a shortest such path
pub record IsShortest (ms : List Member) (without path : List ℕ) (object : ℕ) : Type 0 where
  pub is_way : IsWay ms without path object
  pub shortest : (other : List ℕ) → IsWay ms without other object → length path ≤ length other

-- there is no such path
abbrev pub HasNone : List Member → List ℕ → ℕ → Type 0
HasNone ms without object = (path : List ℕ) → ¬ IsWay ms without path object

-- It is reached, but not by paths that avoid the dropped members: no path remains if all references to them are
-- dropped.
pub record IsLetGo (ms : List Member) (dropped : List ℕ) (o : ℕ) : Type 0 where
  pub reached : IsReached ms o
  pub by_these : ¬ Reach (IsHeld ms) (IsOther ms dropped) (edges ms) o

-- The candidates of the next full collection are the tracked members.
abbrev pub tracked_of : List Member → List Bool
tracked_of ms = map (λ m. m.tracked) ms

abbrev pub legacy_of : List Member → List Bool
legacy_of ms = map (λ m. m.legacy) ms

abbrev pub IsCandidate : List Member → ℕ → Type 0
IsCandidate ms o = Marks (tracked_of ms) o

-- a candidate's in-degree exceeds its occurrences among the references of candidates
abbrev pub IsHeldElsewhere : List Member → ℕ → Type 0
IsHeldElsewhere ms o = occurrences o (targets_from (tracked_of ms) (rows_of ms)) < degree_at ms o

-- the candidates that the collection finds unreachable
abbrev pub IsUnreachable : List Member → ℕ → Type 0
IsUnreachable ms o = Unreachable (IsHeldElsewhere ms) (IsCandidate ms) (edges ms) o

-- what it sets aside: unreachable with a legacy finalizer, or reached from such a member through unreachable ones
-- (`gc.garbage`)
abbrev pub IsSetAside : List Member → ℕ → Type 0
IsSetAside ms o = Reach (Marks (legacy_of ms)) (IsUnreachable ms) (edges ms) o

-- what it clears
pub record IsCleared (ms : List Member) (o : ℕ) : Type 0 where
  pub unreachable : IsUnreachable ms o
  pub not_aside : ¬ IsSetAside ms o

-- It is lost, and does not die by count when the next full collection clears what it does.
pub record IsStuck (ms : List Member) (o : ℕ) : Type 0 where
  pub lost : IsLost ms o
  pub stays : ¬ Dies ms (IsCleared ms) o

-- the members with their untold words as references
abbrev pub with_words : Member → Member
with_words m = record m { refs = m.refs ++ m.untold }

abbrev pub all_told : List Member → List Member
all_told ms = map with_words ms

-- It would be lost if untold words were references, and is not.
pub record IsKeptByWords (ms : List Member) (o : ℕ) : Type 0 where
  pub lost_with : IsLost (all_told ms) o
  pub reached : ¬ IsLost ms o

-- what would go if all references to these were dropped
abbrev pub IsGone : List Member → List ℕ → ℕ → Type 0
IsGone ms dropped o = Dies ms (Includes dropped) o ⊎ IsLetGo ms dropped o
