use Rattle.std.proofs.Common.{ap}
use Rattle.cg_weak.specs.Table.{rows_of}
use Rattle.cg_weak.proofs.table.WeakTable.new.Goals as goal

pub returns : goal.returns
unfolding rows_of
returns c = ap rows_of c.with_hasher.ensures.empty
