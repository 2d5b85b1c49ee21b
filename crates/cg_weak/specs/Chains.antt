-- The two chains of an object by their ends.
use Rattle.std.specs.Prelude.{ℕ, Bool, true, false, Option, Some, None}
use Rattle.cg_weak.specs.declared.chains.Ends.{Ends}
use Rattle.cg_weak.specs.declared.chains.Chains.{Chains}

-- the second if the neighbour is missing, else the third
abbrev pub at_end : Option ℕ → Option ℕ → Option ℕ → Option ℕ
at_end None here end = here
at_end (Some w) here end = end

-- the ends after a row between two neighbours leaves
abbrev pub ends_without : Option ℕ → Option ℕ → Ends → Ends
ends_without newer older e = record { newest = at_end newer older e.newest; oldest = at_end older newer e.oldest }

-- the ends after a row joins between two neighbours
abbrev pub ends_joined : Option ℕ → ℕ → Option ℕ → Ends → Ends
ends_joined newer weak older e = record {
  newest = at_end newer (Some weak) e.newest;
  oldest = at_end older (Some weak) e.oldest;
}

-- the ends of an empty chain
abbrev pub no_ends : Ends
no_ends = record { newest = None; oldest = None }

-- two empty chains
abbrev pub no_chains : Chains
no_chains = record { current = no_ends; waiting = no_ends }

-- the ends of the waiting chain, or of the other one
abbrev pub ends_of : Chains → Bool → Ends
ends_of c true = c.waiting
ends_of c false = c.current

-- the chains with other ends for one of them
abbrev pub with_ends : Bool → Ends → Chains → Chains
with_ends true ends c = record c { waiting = ends }
with_ends false ends c = record c { current = ends }

-- an optional object's chains, empty if missing
abbrev pub chains_in : Option Chains → Chains
chains_in None = no_chains
chains_in (Some c) = c
