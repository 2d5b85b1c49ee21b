use Rattle.cg_ask.proofs.Counting.{OutsideSo}
use Rattle.cg_ask.proofs.counts.outside_holds.Given as goal

abbrev pub invariant-members : goal.invariant-members
invariant-members l = OutsideSo l.members l.at l.outside.items
