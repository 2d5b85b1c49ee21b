use Rattle.std.proofs.Common.{map}
use Rattle.cg_search.proofs.Counting.{CountsTo}
use Rattle.cg_search.proofs.count.count_targets.Given as goal

abbrev pub invariant-nodes : goal.invariant-nodes
invariant-nodes g l = CountsTo l.marks (map g.N.Node.points_to l.nodes) l.at l.counts.items
