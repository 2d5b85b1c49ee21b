use Rattle.std.proofs.Common.{take}
use Rattle.cg_cert.specs.Judged.{serials_of}
use Rattle.cg_cert.specs.Positions.{Locates}
use Rattle.cg_cert.proofs.table.positions_of.Given as goal

abbrev pub invariant-members : goal.invariant-members
invariant-members l = Locates (serials_of (take l.at l.members)) l.table
