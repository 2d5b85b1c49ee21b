use Rattle.std.proofs.Common.{take}
use Rattle.cg_search.specs.Counts.{Adds}
use Rattle.cg_search.proofs.count.add_row.Given as goal

abbrev pub invariant-targets : goal.invariant-targets
invariant-targets l = Adds l.fn.counts.items (take l.target-index l.row) l.counts.items
