use Rattle.std.proofs.Common.{◌≡◌, take}
use Rattle.cg_ask.proofs.Marking.{zipped, any}
use Rattle.cg_ask.proofs.marks.joined.Given as goal

abbrev pub invariant-places : goal.invariant-places
invariant-places l = l.all.items ≡ zipped any (take l.at l.marks) (take l.at l.others)
