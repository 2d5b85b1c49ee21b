use Rattle.std.proofs.Common.{arith}
use Rattle.cg_ask.proofs.Clearing.{stuck_just}
use Rattle.cg_ask.proofs.collection.stuck_of.Goals as goal
use Rattle.cg_ask.proofs.FaultsOfHeaps.{long}

pub dying-requires-clause-long : goal.dying-requires-clause-long
dying-requires-clause-long c = omega (arith, long c.deref.ensures.value, c.in_ok-cleared.ensures.len)

pub without-requires : goal.without-requires
without-requires c = omega (arith, long c.deref-2.ensures.value, c.in_ok-dead.ensures.len, c.requires.lost.len)

pub returns : goal.returns
returns c =
    let dead = rw (c.deref.ensures.value) at c.in_ok-dead.ensures in
    let left = rw (c.deref-2.ensures.value) at c.in_ok-stuck.ensures in
    stuck_just c.args.members.now c.args.lost.now c.in_ok-cleared.cleared.items c.in_ok-dead.dead.items c.in_ok-stuck.stuck.items c.requires.lost c.in_ok-cleared.ensures dead left
