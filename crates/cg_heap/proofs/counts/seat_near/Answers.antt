use Rattle.cg_heap.proofs.CountAll.{seated}
use Rattle.cg_heap.proofs.counts.seat_near.Goals as goal

pub returns : goal.returns
returns c = seated _ _ _ c.requires c.seat_near-code.ensures.code c.seat_near-code.ensures.body
