use Rattle.cg_promises.proofs.History.{entries_leave}
use Rattle.cg_promises.proofs.holdings.entries_leave_only_by.Goals as goal

pub returns : goal.returns
returns c = entries_leave
