use Rattle.cg_heap.proofs.CountAll.{seated}
use Rattle.cg_heap.proofs.counts.seat_of.Goals as goal

pub returns : goal.returns
returns c = seated _ _ _ c.requires c.seat_of-code.ensures.code c.seat_of-code.ensures.body
