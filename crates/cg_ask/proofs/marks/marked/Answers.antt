use Rattle.std.proofs.Common.{arith}
use Rattle.cg_ask.proofs.Marking.{just_none, just_next, just_places, next_member}
use Rattle.cg_ask.proofs.marks.marked.Goals as goal

pub places-init : goal.places-init
places-init c = just_none c.args.count c.args.places.now c.in_ok-marks.marks.items (c.in_ok-marks.ensures.items_if_clones_equal (λ y e. e))

pub index_mut-requires : goal.index_mut-requires
index_mut-requires c =
    let inside = next_member c.args.count c.args.places.now c.places.place-index c.requires c.places-test.true in
    grind (arith, inside, c.places.invariant.len, c.places.marks.ok)

pub places-preserved : goal.places-preserved
places-preserved c =
    just_next c.args.count c.args.places.now c.places.marks.items c.places.place-index c.places-test.true (next_member c.args.count c.args.places.now
    c.places.place-index c.requires c.places-test.true) c.places.invariant

pub returns : goal.returns
returns c = just_places c.args.count c.args.places.now c.places.marks.items c.places.place-index c.places-test.false c.places.invariant
