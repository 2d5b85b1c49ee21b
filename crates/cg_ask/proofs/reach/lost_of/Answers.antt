use Rattle.std.proofs.Common.{arith}
use Rattle.cg_ask.proofs.Reaching.{lost_just}
use Rattle.cg_ask.proofs.reach.lost_of.Goals as goal
use Rattle.cg_ask.proofs.FaultsOfHeaps.{long}

pub without-requires : goal.without-requires
without-requires c = omega (arith, long c.deref.ensures.value, long c.deref-2.ensures.value, c.in_ok-all.ensures.len, c.in_ok-found.ensures.len)

pub returns : goal.returns
returns c =
    let all = c.in_ok-all.ensures in
    let left = rw (c.deref.ensures.value, c.deref-2.ensures.value) at c.in_ok-lost.ensures in
    lost_just c.args.members.now c.in_ok-all.all.items c.in_ok-found.found.items c.in_ok-lost.lost.items all c.in_ok-found.ensures left
