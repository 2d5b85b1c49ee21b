use Rattle.cg_heap.proofs.CountAll.{seated}
use Rattle.cg_heap.proofs.counts.seat_and_place_near.Goals as goal

pub returns-clause-seat : goal.returns-clause-seat
returns-clause-seat c = seated _ _ _ c.requires c.head_near-head.ensures.code c.head_near-head.ensures.body
