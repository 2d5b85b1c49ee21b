-- The contents of a node: a row without its weak reference, and its neighbours.
use Rattle.std.specs.Prelude.{ℕ, ◌==◌, Bool, false, Option, Some, None, option_map, if◌then◌else◌}
use Rattle.cg_weak.specs.declared.nodes.Node.{Node}

-- whether an optional weak reference is this one
abbrev pub is_named : Option ℕ → ℕ → Bool
is_named None v = false
is_named (Some w) v = w == v

-- the node with another older neighbour
abbrev pub with_older : Option ℕ → Node → Node
with_older older n = record n { older = older }

-- the node with another newer neighbour
abbrev pub with_newer : Option ℕ → Node → Node
with_newer newer n = record n { newer = newer }

-- the effect at v of writing the older neighbour of a weak reference
abbrev pub older_set : Option ℕ → Option ℕ → ℕ → Option Node → Option Node
older_set at older v o = if is_named at v then option_map (with_older older) o else o

-- the effect at v of writing its newer neighbour
abbrev pub newer_set : Option ℕ → Option ℕ → ℕ → Option Node → Option Node
newer_set at newer v o = if is_named at v then option_map (with_newer newer) o else o

-- a chain: its referent, and whether its rows wait
abbrev pub Chain : Type 0
Chain = ℕ × Bool

-- the chain of a node
abbrev pub chain_in : Option Node → Option Chain
chain_in o = option_map (λ n. (n.referent, n.waits)) o

-- its older neighbour
abbrev pub older_in : Option Node → Option ℕ
older_in None = None
older_in (Some n) = n.older

-- its newer neighbour
abbrev pub newer_in : Option Node → Option ℕ
newer_in None = None
newer_in (Some n) = n.newer
