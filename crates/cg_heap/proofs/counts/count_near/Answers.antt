use Rattle.cg_heap.proofs.Calls.{uncounted}
use Rattle.cg_heap.proofs.counts.count_near.Goals as goal

pub returns-in_default : goal.returns-in_default
returns-in_default c = uncounted c.args.arena.now c.args.val c.in_default.not-Ref
