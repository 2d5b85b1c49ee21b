use Rattle.cg_ask.proofs.Rows.{via_first, via_next, via_all}
use Rattle.cg_ask.proofs.why.put_rest.Goals as goal

pub places-init : goal.places-init
places-init c = via_first c.args.out.now.items c.args.path.now

pub places-preserved : goal.places-preserved
places-preserved c = via_next c.args.out.now.items c.places.out.items c.put_line.new.out.items c.args.path.now c.places.place-index c.places-test.true c.places.invariant c.in_ok-put_line.ensures

pub returns : goal.returns
returns c = via_all c.args.out.now.items c.places.out.items c.args.path.now c.places.place-index c.places-test.false c.places.invariant
