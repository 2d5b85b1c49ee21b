use Rattle.std.proofs.Common.{arith, false}
use Rattle.cg_ask.proofs.Clearing.{cleared_just, legacy_long}
use Rattle.cg_ask.proofs.FaultsOfHeaps.{refs_within, long}
use Rattle.cg_ask.proofs.collection.cleared_of.Goals as goal

pub reached-requires-clause-as_many : goal.reached-requires-clause-as_many
reached-requires-clause-as_many c =
    omega (arith, long c.deref.ensures.value, long c.deref-2.ensures.value, c.in_ok-lost.ensures.len, legacy_long c.args.members.now c.in_ok-marks.marks.items c.in_ok-marks.ensures)

pub reached-requires-clause-long : goal.reached-requires-clause-long
reached-requires-clause-long c = omega (arith, long c.deref-2.ensures.value, c.in_ok-lost.ensures.len)

pub reached-requires-clause-within : goal.reached-requires-clause-within
reached-requires-clause-within c = λ i m.
    let within = refs_within c.args.members.now false c.requires.right i m in
    omega (arith, within, long c.deref-2.ensures.value, c.in_ok-lost.ensures.len)

pub without-requires : goal.without-requires
without-requires c = omega (arith, long c.deref-2.ensures.value, long c.deref-3.ensures.value, long c.deref-4.ensures.value, c.in_ok-aside.ensures.len)

pub returns : goal.returns
returns c =
    let led = rw (c.deref.ensures.value, c.deref-2.ensures.value) at c.in_ok-aside.ensures.led in
    let len = rw (c.deref-2.ensures.value) at c.in_ok-aside.ensures.len in
    let left = rw (c.deref-3.ensures.value, c.deref-4.ensures.value) at c.in_ok-cleared.ensures in
    cleared_just c.args.members.now c.in_ok-lost.lost.items c.in_ok-marks.marks.items c.in_ok-aside.aside.items c.in_ok-cleared.cleared.items c.in_ok-lost.ensures c.in_ok-marks.ensures len led left
