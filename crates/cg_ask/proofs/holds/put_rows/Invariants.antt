use Rattle.std.specs.Prelude.{codes}
use Rattle.cg_ask.specs.Answers.{TellsReferrer}
use Rattle.cg_ask.proofs.Rows.{RowsBelow}
use Rattle.cg_ask.proofs.holds.put_rows.Given as goal

abbrev pub invariant-members : goal.invariant-members
invariant-members l = RowsBelow (TellsReferrer l.members l.object) (codes "referrer") l.at l.fn.out.items l.out.items
