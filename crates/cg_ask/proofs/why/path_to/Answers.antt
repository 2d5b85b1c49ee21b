use Rattle.std.proofs.Common.{arith, false}
use Rattle.cg_ask.proofs.FaultsOfHeaps.{refs_within, long}
use Rattle.cg_ask.proofs.Reaching.{found_way, found_none}
use Rattle.cg_ask.proofs.why.path_to.Goals as goal

pub shortest_way-requires-clause-as_many : goal.shortest_way-requires-clause-as_many
shortest_way-requires-clause-as_many c = omega (arith, long c.deref.ensures.value, long c.deref-2.ensures.value, c.in_ok-held.ensures.len, c.in_ok-others.ensures.len)

pub shortest_way-requires-clause-long : goal.shortest_way-requires-clause-long
shortest_way-requires-clause-long c = omega (arith, long c.deref-2.ensures.value, c.in_ok-others.ensures.len)

pub shortest_way-requires-clause-within : goal.shortest_way-requires-clause-within
shortest_way-requires-clause-within c = λ i m.
    let within = refs_within c.args.members.now false c.requires.right i m in
    omega (arith, within, long c.deref-2.ensures.value, c.in_ok-others.ensures.len)

pub returns-clause-found : goal.returns-clause-found
returns-clause-found c =
    let found = rw (c.deref.ensures.value, c.deref-2.ensures.value) at c.in_ok-path.ensures.found in
    found_way c.args.members.now c.args.but.now c.in_ok-held.held.items c.in_ok-others.others.items c.in_ok-held.ensures c.in_ok-others.ensures c.args.object c.in_ok-path.path found

pub returns-clause-none : goal.returns-clause-none
returns-clause-none c =
    let none = rw (c.deref.ensures.value, c.deref-2.ensures.value) at c.in_ok-path.ensures.none in
    found_none c.args.members.now c.args.but.now c.in_ok-held.held.items c.in_ok-others.others.items c.in_ok-held.ensures c.in_ok-others.ensures c.args.object c.in_ok-path.path none
