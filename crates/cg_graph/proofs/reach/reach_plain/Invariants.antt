use Rattle.std.proofs.Common.{length}
use Rattle.cg_graph.proofs.PlainReach.{Spreads}
use Rattle.cg_graph.proofs.reach.reach_plain.Given as goal

abbrev pub invariant-turns : goal.invariant-turns
invariant-turns l = Spreads l.held l.inside l.edges l.found.items l.rest.items

abbrev pub decreases-turns : goal.decreases-turns
decreases-turns l = length l.rest.items
