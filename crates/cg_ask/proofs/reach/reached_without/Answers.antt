use Rattle.std.proofs.Common.{refl, ◌∙◌, arith, false}
use Rattle.cg_ask.specs.Asked.{IsHeld, IsOther, edges, rows_of}
use Rattle.cg_ask.proofs.FaultsOfHeaps.{refs_within, long}
use Rattle.cg_ask.proofs.Reaching.{found_just}
use Rattle.cg_ask.proofs.reach.reached_without.Goals as goal

pub reached-requires-clause-as_many : goal.reached-requires-clause-as_many
reached-requires-clause-as_many c = omega (arith, long c.deref.ensures.value, long c.deref-2.ensures.value, c.in_ok-held.ensures.len, c.in_ok-others.ensures.len)

pub reached-requires-clause-long : goal.reached-requires-clause-long
reached-requires-clause-long c = omega (arith, long c.deref-2.ensures.value, c.in_ok-others.ensures.len)

pub reached-requires-clause-within : goal.reached-requires-clause-within
reached-requires-clause-within c = λ i m.
    let within = refs_within c.args.members.now false c.requires.right i m in
    omega (arith, within, long c.deref-2.ensures.value, c.in_ok-others.ensures.len)

pub returns : goal.returns
returns c =
    let led = rw (c.deref.ensures.value, c.deref-2.ensures.value) at c.in_ok-found.ensures.led in
    let len = rw (c.deref-2.ensures.value) at c.in_ok-found.ensures.len in
    found_just c.args.members.now (rows_of c.args.members.now) c.in_ok-held.held.items c.in_ok-others.others.items c.in_ok-found.found.items
    (IsHeld c.args.members.now) (IsOther c.args.members.now c.args.places.now)
    c.in_ok-held.ensures.just c.in_ok-others.ensures.just (len ∙ c.in_ok-others.ensures.len) led (edges c.args.members.now) refl
