use Rattle.cg_heap.proofs.CountAll.{first-live, first-room, second-live, second-room, both-counted, none-counted}
use Rattle.cg_heap.proofs.counts.count_all.Goals as goal

pub loop-part-init : goal.loop-part-init
loop-part-init c = none-counted c.args.arena.now

pub count_in-requires-clause-live : goal.count_in-requires-clause-live
count_in-requires-clause-live c = first-live c.args.arena.now c.loop-part.arena c.args.parts.now c.loop-part.part-index _ c.loop-part-test.true c.loop-part.invariant c.requires.live c.requires.room

pub count_in-requires-clause-room : goal.count_in-requires-clause-room
count_in-requires-clause-room c = first-room c.args.arena.now c.loop-part.arena c.args.parts.now c.loop-part.part-index _ c.loop-part-test.true c.loop-part.invariant c.requires.live c.requires.room

pub count_in-requires-in-loop-part-clause-live : goal.count_in-requires-in-loop-part-clause-live
count_in-requires-in-loop-part-clause-live c = second-live c.args.arena.now c.loop-part.arena c.args.parts.now c.loop-part.part-index _ c.loop-part-test.true
    c.loop-part.invariant c.requires.live c.requires.room c.count_in.new.arena c.count_in.ensures

pub count_in-requires-in-loop-part-clause-room : goal.count_in-requires-in-loop-part-clause-room
count_in-requires-in-loop-part-clause-room c = second-room c.args.arena.now c.loop-part.arena c.args.parts.now c.loop-part.part-index _ c.loop-part-test.true
    c.loop-part.invariant c.requires.live c.requires.room c.count_in.new.arena c.count_in.ensures

pub loop-part-preserved : goal.loop-part-preserved
loop-part-preserved c = both-counted c.args.arena.now c.loop-part.arena c.args.parts.now c.loop-part.part-index _ c.loop-part-test.true c.loop-part.invariant
    c.count_in.new.arena c.count_in-in-loop-part.new.arena c.count_in.ensures c.count_in-in-loop-part.ensures
