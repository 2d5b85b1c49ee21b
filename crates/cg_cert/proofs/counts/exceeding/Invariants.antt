use Rattle.cg_cert.proofs.CountsOfMembers.{ExceedFirst}
use Rattle.cg_cert.proofs.counts.exceeding.Given as goal

abbrev pub invariant-members : goal.invariant-members
invariant-members l = ExceedFirst l.members l.at l.marks.items
