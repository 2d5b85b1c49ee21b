use Rattle.cg_weak.proofs.RowLists.{found_there}
use Rattle.cg_weak.proofs.table.WeakTable.forget.Goals as goal

pub remove-requires : goal.remove-requires
remove-requires c = found_there (λ r. r.waits) c.args.self.now.rows c.args.weak c.requires
