use Rattle.std.proofs.Common.{◌∙◌, arith, false}
use Rattle.cg_ask.proofs.Clearing.{unreachable_just, candidates_long}
use Rattle.cg_ask.proofs.FaultsOfHeaps.{refs_within, long}
use Rattle.cg_ask.proofs.collection.unreachable_of.Goals as goal

pub held_elsewhere-requires-clause-candidates : goal.held_elsewhere-requires-clause-candidates
held_elsewhere-requires-clause-candidates c = c.deref.ensures.value ∙ c.in_ok-candidates.ensures

pub reached-requires-clause-as_many : goal.reached-requires-clause-as_many
reached-requires-clause-as_many c =
    omega (arith, long c.deref-2.ensures.value, long c.deref-3.ensures.value, c.in_ok-held.ensures.len, candidates_long c.args.members.now c.in_ok-candidates.candidates.items c.in_ok-candidates.ensures)

pub reached-requires-clause-long : goal.reached-requires-clause-long
reached-requires-clause-long c = omega (arith, long c.deref-3.ensures.value, candidates_long c.args.members.now c.in_ok-candidates.candidates.items c.in_ok-candidates.ensures)

pub reached-requires-clause-within : goal.reached-requires-clause-within
reached-requires-clause-within c = λ i m.
    let within = refs_within c.args.members.now false c.requires.right i m in
    omega (arith, within, long c.deref-3.ensures.value, candidates_long c.args.members.now c.in_ok-candidates.candidates.items c.in_ok-candidates.ensures)

pub without-requires : goal.without-requires
without-requires c = omega (arith, long c.deref-3.ensures.value, long c.deref-4.ensures.value, long c.deref-5.ensures.value, c.in_ok-found.ensures.len)

pub returns : goal.returns
returns c =
    let led = rw (c.deref-2.ensures.value, c.deref-3.ensures.value) at c.in_ok-found.ensures.led in
    let len = rw (c.deref-3.ensures.value) at c.in_ok-found.ensures.len in
    let left = rw (c.deref-4.ensures.value, c.deref-5.ensures.value) at c.in_ok-lost.ensures in
    unreachable_just c.args.members.now c.in_ok-candidates.candidates.items c.in_ok-held.held.items c.in_ok-found.found.items c.in_ok-lost.lost.items
    c.in_ok-candidates.ensures c.in_ok-held.ensures len led left
