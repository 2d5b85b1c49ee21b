use Rattle.std.proofs.Common.{arith}
use Rattle.cg_graph.specs.Member.{Includes}
use Rattle.cg_ask.proofs.DiesByCount.{dead_just}
use Rattle.cg_ask.proofs.WouldGo.{gone_just}
use Rattle.cg_ask.proofs.sets.gone_of.Goals as goal
use Rattle.cg_ask.proofs.FaultsOfHeaps.{long}

pub marked-requires : goal.marked-requires
marked-requires c = c.requires.places

pub dying-requires-clause-long : goal.dying-requires-clause-long
dying-requires-clause-long c = omega (arith, long c.deref.ensures.value, c.in_ok-given.ensures.len)

pub without-requires : goal.without-requires
without-requires c = omega (arith, long c.deref-2.ensures.value, long c.deref-3.ensures.value, c.in_ok-before.ensures.len, c.in_ok-after.ensures.len)

pub joined-requires : goal.joined-requires
joined-requires c =
    omega (arith, long c.deref-2.ensures.value, long c.deref-4.ensures.value, long c.deref-5.ensures.value, c.in_ok-dead.ensures.len, c.in_ok-before.ensures.len, c.in_ok-let_go.ensures.len)

pub returns-clause-gone : goal.returns-clause-gone
returns-clause-gone c =
    let given = c.in_ok-given.ensures in
    let dies = rw (c.deref.ensures.value) at c.in_ok-dead.ensures in
    let dead = dead_just c.args.members.now c.in_ok-given.given.items c.in_ok-dead.dead.items (Includes c.args.places.now) given dies in
    let left = rw (c.deref-2.ensures.value, c.deref-3.ensures.value) at c.in_ok-let_go.ensures in
    let all = rw (c.deref-4.ensures.value, c.deref-5.ensures.value) at c.in_ok-gone.ensures in
    gone_just c.args.members.now c.args.places.now c.in_ok-dead.dead.items c.in_ok-before.before.items c.in_ok-after.after.items c.in_ok-let_go.let_go.items
    c.in_ok-gone.gone.items dead c.in_ok-before.ensures c.in_ok-after.ensures left all

pub returns-clause-dead : goal.returns-clause-dead
returns-clause-dead c =
    let given = c.in_ok-given.ensures in
    let dies = rw (c.deref.ensures.value) at c.in_ok-dead.ensures in
    dead_just c.args.members.now c.in_ok-given.given.items c.in_ok-dead.dead.items (Includes c.args.places.now) given dies
