use Rattle.std.proofs.Common.{◌+◌, not, length, map}
use Rattle.std.specs.Prelude.{count_by}
use Rattle.cg_search.proofs.Visited.{Searches}
use Rattle.cg_search.proofs.search.reached.Given as goal

abbrev pub invariant-turns : goal.invariant-turns
invariant-turns g l = Searches l.starts l.allowed (map g.N.Node.points_to l.nodes) l.marks.items l.waits.items

abbrev pub decreases-turns : goal.decreases-turns
decreases-turns g l = count_by not l.marks.items + length l.waits.items
