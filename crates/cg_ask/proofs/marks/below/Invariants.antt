use Rattle.std.proofs.Common.{nat_lt, get_or}
use Rattle.cg_ask.proofs.Marking.{MarksSo}
use Rattle.cg_ask.proofs.marks.below.Given as goal

abbrev pub invariant-places : goal.invariant-places
invariant-places l = MarksSo l.at (λ i. nat_lt (get_or l.numbers i 0) (get_or l.others i 0)) l.marks.items
