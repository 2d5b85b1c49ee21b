use Rattle.cg_heap.proofs.CountAll.{seated}
use Rattle.cg_heap.proofs.counts.drop_seat.Goals as goal

pub returns-clause-seat : goal.returns-clause-seat
returns-clause-seat c = seated _ _ _ c.requires.has c.drop_seat-code.ensures.code c.drop_seat-code.ensures.body
