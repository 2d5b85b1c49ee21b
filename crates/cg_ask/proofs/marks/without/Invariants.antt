use Rattle.std.proofs.Common.{◌≡◌, take}
use Rattle.cg_ask.proofs.Marking.{zipped, only}
use Rattle.cg_ask.proofs.marks.without.Given as goal

abbrev pub invariant-places : goal.invariant-places
invariant-places l = l.left.items ≡ zipped only (take l.at l.marks) (take l.at l.others)
