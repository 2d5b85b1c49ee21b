use Rattle.cg_cert.proofs.Ascending.{AscendTo}
use Rattle.cg_cert.proofs.table.ascend.Given as goal

abbrev pub invariant-members : goal.invariant-members
invariant-members l = AscendTo l.fn.members l.at
