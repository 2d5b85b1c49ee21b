use Rattle.cg_search.specs.Walks.{Agree, IsStart}
use Rattle.cg_search.proofs.Walking.{StartsBelow}
use Rattle.cg_search.proofs.walk.find_starts.Given as goal

abbrev pub invariant-starts : goal.invariant-starts
invariant-starts l = record { agree : Agree l.allowed l.marks.items l.found.items; starts : IsStart (StartsBelow l.starts l.allowed l.at) l.found.items }
