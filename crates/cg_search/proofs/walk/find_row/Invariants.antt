use Rattle.std.proofs.Common.{take, Some}
use Rattle.cg_search.proofs.Walking.{Found}
use Rattle.cg_search.proofs.walk.find_row.Given as goal

abbrev pub invariant-targets : goal.invariant-targets
invariant-targets l = Found l.allowed l.fn.found.items (take l.target-index l.row) (Some l.holder) l.marks.items l.found.items
