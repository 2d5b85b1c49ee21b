use Rattle.std.proofs.Common.{arith}
use Rattle.cg_ask.proofs.Reaching.{others_just}
use Rattle.cg_ask.proofs.reach.others_of.Goals as goal
use Rattle.cg_ask.proofs.FaultsOfHeaps.{long}

pub marked-requires : goal.marked-requires
marked-requires c = c.requires

pub without-requires : goal.without-requires
without-requires c = omega (arith, long c.deref.ensures.value, long c.deref-2.ensures.value, c.in_ok-all.ensures.len, c.in_ok-these.ensures.len)

pub returns : goal.returns
returns c =
    let all = c.in_ok-all.ensures in
    let these = c.in_ok-these.ensures in
    let left = rw (c.deref.ensures.value, c.deref-2.ensures.value) at c.in_ok-others.ensures in
    others_just c.args.members.now c.args.places.now c.in_ok-all.all.items c.in_ok-these.these.items c.in_ok-others.others.items all these left
