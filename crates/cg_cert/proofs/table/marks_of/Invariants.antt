use Rattle.std.proofs.Common.{take}
use Rattle.cg_cert.specs.Judged.{serials_of}
use Rattle.cg_cert.proofs.NamesAndPositions.{MarksFirst}
use Rattle.cg_cert.proofs.table.marks_of.Given as goal

abbrev pub invariant-serials : goal.invariant-serials
invariant-serials l = MarksFirst (serials_of l.fn.members) (take l.serial-index l.fn.serials) l.marks.items
