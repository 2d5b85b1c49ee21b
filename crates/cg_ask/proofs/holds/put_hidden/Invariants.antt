use Rattle.std.specs.Prelude.{codes}
use Rattle.cg_ask.specs.Answers.{TellsHidden}
use Rattle.cg_ask.proofs.Rows.{RowsBelow}
use Rattle.cg_ask.proofs.holds.put_hidden.Given as goal

abbrev pub invariant-members : goal.invariant-members
invariant-members l = RowsBelow (TellsHidden l.members) (codes "hidden") l.at l.fn.out.items l.out.items
