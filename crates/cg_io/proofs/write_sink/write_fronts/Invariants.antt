use Rattle.std.proofs.Common.{length}
use Rattle.cg_io.proofs.Fronts.{WroteSoFar}
use Rattle.cg_io.proofs.write_sink.write_fronts.Given as goal

abbrev pub invariant-fronts : goal.invariant-fronts
invariant-fronts g l = WroteSoFar (g.W.Write.contents l.fn.inner) (g.W.Write.contents l.inner) l.bytes l.rest

abbrev pub decreases-fronts : goal.decreases-fronts
decreases-fronts g l = length l.rest
