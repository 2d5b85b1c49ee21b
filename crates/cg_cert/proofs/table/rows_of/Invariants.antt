use Rattle.std.proofs.Common.{take}
use Rattle.cg_cert.specs.Judged.{serials_of}
use Rattle.cg_cert.specs.Positions.{AreRowsOf, rows_in}
use Rattle.cg_cert.proofs.table.rows_of.Given as goal

abbrev pub invariant-members : goal.invariant-members
invariant-members l = AreRowsOf (serials_of l.fn.members) (take l.at l.fn.members) (rows_in l.rows.items)
