use Rattle.std.proofs.Common.{◌≡◌}
use Rattle.cg_search.specs.Places.{Marks}
use Rattle.cg_ask.specs.Marked.{flags_of}
use Rattle.cg_ask.proofs.Rows.{RowsBelow}
use Rattle.cg_ask.proofs.lines.put_flagged.Given as goal

abbrev pub invariant-places : goal.invariant-places
invariant-places l = RowsBelow (λ m ns. Marks l.marks m × (ns ≡ flags_of l.others m)) l.word l.at l.fn.out.items l.out.items
