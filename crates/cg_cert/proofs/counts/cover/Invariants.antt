use Rattle.cg_cert.proofs.CountsOfMembers.{CoverFirst}
use Rattle.cg_cert.proofs.counts.cover.Given as goal

abbrev pub invariant-members : goal.invariant-members
invariant-members l = CoverFirst l.members l.at
