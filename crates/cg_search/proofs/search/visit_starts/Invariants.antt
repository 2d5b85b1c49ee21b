use Rattle.std.proofs.Common.{◌<◌}
use Rattle.cg_search.specs.Visits.{Visits}
use Rattle.cg_search.specs.Places.{Marks}
use Rattle.cg_search.proofs.search.visit_starts.Given as goal

abbrev pub invariant-starts : goal.invariant-starts
invariant-starts l = Visits (λ i. (i < l.at) × Marks l.starts i) l.allowed l.fn.marks.items l.fn.waits.items l.marks.items l.waits.items
