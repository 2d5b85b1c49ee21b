use Rattle.std.proofs.Common.{ap, inr, refl, length, arith}
use Rattle.cg_graph.specs.Store.{entries_of}
use Rattle.cg_graph.specs.Value.{entry_references, without_last}
use Rattle.cg_heap.proofs.HoldLemmas.{outside_live}
use Rattle.cg_collect.proofs.Looks.{one_there}
use Rattle.cg_collect.proofs.NothingIsMade.{keeps_all, keeps-taken}
use Rattle.cg_collect.proofs.TakingTurns.{in_heap, gives_up}
use Rattle.cg_collect.proofs.ClearingTurns.{turn-taken, turn-emptied, apart_taken, taken_falls}
use Rattle.cg_collect.proofs.turns.empty_one.Goals as goal

pub detach_looking-requires-clause-live : goal.detach_looking-requires-clause-live
detach_looking-requires-clause-live g c = outside_live c.args.heap.now c.args.object c.requires.held

pub returns-in-Some-clause-takes : goal.returns-in-Some-clause-takes
returns-in-Some-clause-takes g c = λ script facts policy.
    let store = c.args.heap.now in
    let live = outside_live store c.args.object c.requires.held in
    in_heap c.in-Some.ensures.rest (gives_up c.gives_up.ensures (turn-taken store c.args.object c.sound.ensures.live c.in-Some.entry c.in-Some.ensures.last
    c.new.result c.new.ensures script facts policy)
    (apart_taken store c.sound.ensures.listed c.args.object live c.in-Some.entry c.in-Some.ensures.last c.requires.ready.1 c.requires.ready.0, c.requires.ready.1) tt
    (inr (refl, taken_falls store c.sound.ensures.listed c.args.object live c.in-Some.entry c.in-Some.ensures.last c.new.result c.new.ensures)) tt (λ n few. few) (omega arith, refl)
    (keeps-taken (entry_references c.in-Some.entry) c.args.object (without_last (entries_of store c.args.object)) store))

pub returns-in-Some-clause-looks : goal.returns-in-Some-clause-looks
returns-in-Some-clause-looks g c = omega (
  arith,
  c.in-Some.ensures.looked,
  one_there (entries_of c.args.heap.now c.args.object)
      (without_last (entries_of c.args.heap.now c.args.object)) c.in-Some.entry c.in-Some.ensures.last,
)

pub returns-in-None-clause-looks : goal.returns-in-None-clause-looks
returns-in-None-clause-looks g c = omega (arith, c.in-None.ensures.unlooked)

pub returns-in-None-clause-takes : goal.returns-in-None-clause-takes
returns-in-None-clause-takes g c = λ script facts policy.
    let store = c.args.heap.now in
    in_heap c.in-None.ensures.none (gives_up c.gives_up-in-None.ensures (turn-emptied store c.args.object c.of.result c.of.ensures (c.in-None.ensures.empty.0 refl) script facts policy)
    c.requires.ready tt (let one = ap length c.of.ensures in inr (refl, omega (arith, one))) tt (λ n few. few) (omega arith, refl) (keeps_all store))
