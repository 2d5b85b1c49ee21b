-- What the fields of a table represent, and their invariant.
use Rattle.std.specs.Prelude.{◌≡◌, ◌≢◌, ℕ, ◌<◌, ◌==◌, nat_lt, nat_eq, List, [], ◌∷◌, find, Option, Some, None, if◌then◌else◌}
use Rattle.std.specs.Map.{lookup}
use Rattle.cg_graph.specs.Rows.{Row}
use Rattle.cg_weak.specs.declared.nodes.Node.{Node}
use Rattle.cg_weak.specs.declared.chains.Chains.{Chains}
use Rattle.cg_weak.specs.declared.chains.Ends.{Ends}
use Rattle.cg_weak.specs.Nodes.{Chain, chain_in, older_in, newer_in}
use Rattle.cg_weak.specs.Chains.{ends_of, chains_in}

-- the row of a node
abbrev pub row_of : ℕ → Node → Row
row_of weak n = record { weak = weak; referent = n.referent; waits = n.waits }

-- the row of a weak reference
abbrev pub row_at : List Row → ℕ → Option Row
row_at rows weak = find (λ r. r.weak == weak) rows

-- inserts a row into ascending rows, replacing one with the same weak reference
abbrev pub put_row : Row → List Row → List Row
put_row r [] = r ∷ []
put_row r (x ∷ xs) =
    if nat_lt x.weak r.weak then x ∷ put_row r xs else (if r.weak == x.weak then r ∷ xs else r ∷ x ∷ xs)

-- the rows of the nodes, in ascending order of weak reference
unfoldable pub rows_of : List (ℕ × Node) → List Row
rows_of [] = []
rows_of (e ∷ es) = put_row (row_of e.0 e.1) (rows_of es)

-- the node of a weak reference
abbrev pub node_in : List (ℕ × Node) → ℕ → Option Node
node_in nodes weak = lookup (nat_eq weak) nodes

-- the chains of an object
abbrev pub chains_of : List (ℕ × Chains) → ℕ → Chains
chains_of chains o = chains_in (lookup (nat_eq o) chains)

-- one direction along a chain, from the oldest to the newest
abbrev pub below : ℕ → ℕ → Type 0
below v w = v < w

-- the other direction
abbrev pub above : ℕ → ℕ → Type 0
above v w = w < v

-- the last of some numbers in an order, none if there are none
abbrev pub IsLast : (ℕ → ℕ → Type 0) → (ℕ → Type 0) → Option ℕ → Type 0
IsLast before P None = (z : ℕ) → P z → ⊥
IsLast before P (Some y) = P y × ((z : ℕ) → P z → z ≢ y → before z y)

-- each row names its neighbour in its chain, in one direction
abbrev pub IsLinked : (ℕ → ℕ → Type 0) → (ℕ → Option Chain) → (ℕ → Option ℕ) → Type 0
IsLinked before chain next =
    (w : ℕ) (k : Chain) → chain w ≡ Some k → IsLast before (λ v. (chain v ≡ Some k) × before v w) (next w)

-- each chain names its end, in one direction
abbrev pub IsEnded : (ℕ → ℕ → Type 0) → (ℕ → Option Chain) → (Chain → Option ℕ) → Type 0
IsEnded before chain end = (k : Chain) → IsLast before (λ v. chain v ≡ Some k) (end k)

-- the chain of a weak reference
abbrev pub chain_at : List (ℕ × Node) → ℕ → Option Chain
chain_at nodes weak = chain_in (node_in nodes weak)

-- its older neighbour
abbrev pub older_at : List (ℕ × Node) → ℕ → Option ℕ
older_at nodes weak = older_in (node_in nodes weak)

-- its newer neighbour
abbrev pub newer_at : List (ℕ × Node) → ℕ → Option ℕ
newer_at nodes weak = newer_in (node_in nodes weak)

-- the ends of a chain
abbrev pub ends_at : List (ℕ × Chains) → Chain → Ends
ends_at chains k = ends_of (chains_of chains k.0) k.1

-- the invariant of a table's fields
pub record IsSound (node : ℕ → Option Node) (ends : Chain → Ends) : Type 0 where
  pub older : IsLinked below (λ v. chain_in (node v)) (λ v. older_in (node v))
  pub newer : IsLinked above (λ v. chain_in (node v)) (λ v. newer_in (node v))
  pub newest : IsEnded below (λ v. chain_in (node v)) (λ k. (ends k).newest)
  pub oldest : IsEnded above (λ v. chain_in (node v)) (λ k. (ends k).oldest)
