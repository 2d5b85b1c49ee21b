use Rattle.std.proofs.Common.{take}
use Rattle.cg_graph.specs.Member.{Includes}
use Rattle.cg_search.specs.Visits.{Visits}
use Rattle.cg_search.proofs.search.visit_row.Given as goal

abbrev pub invariant-targets : goal.invariant-targets
invariant-targets l = Visits (Includes (take l.target-index l.row)) l.allowed l.fn.marks.items l.fn.waits.items l.marks.items l.waits.items
