use Rattle.std.proofs.Common.{map, length, ◌-◌}
use Rattle.cg_search.proofs.Walking.{Walks}
use Rattle.cg_search.proofs.walk.walk.Given as goal

abbrev pub invariant-turns : goal.invariant-turns
invariant-turns g l = Walks l.starts l.allowed (map g.N.Node.points_to l.nodes) l.marks.items l.found.items l.at

abbrev pub decreases-turns : goal.decreases-turns
decreases-turns g l = length l.allowed - l.at
