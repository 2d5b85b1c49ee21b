use Rattle.std.proofs.Common.{length}
use Rattle.cg_generator.proofs.Tallies.{CountedSoFar}
use Rattle.cg_generator.proofs.whole.tally.Given as goal

abbrev pub invariant-lines : goal.invariant-lines
invariant-lines l = CountedSoFar l.text l.rest l.counts

abbrev pub decreases-lines : goal.decreases-lines
decreases-lines l = length l.rest
