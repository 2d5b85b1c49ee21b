use Rattle.std.proofs.Common.{nat_lt, get_or, refl}
use Rattle.cg_ask.proofs.Marking.{so_first, so_next, below_all}
use Rattle.cg_ask.proofs.marks.below.Goals as goal

pub places-init : goal.places-init
places-init c = so_first (λ i. nat_lt (get_or c.args.numbers.now i 0) (get_or c.args.others.now i 0)) c.new-marks.result.items c.new-marks.ensures.items

pub places-preserved : goal.places-preserved
places-preserved c =
    so_next c.places.at (λ i. nat_lt (get_or c.args.numbers.now i 0) (get_or c.args.others.now i 0)) c.places.marks.items c.push.new.self.items
    (nat_lt (get_or c.args.numbers.now c.places.at 0) (get_or c.args.others.now c.places.at 0)) c.in_ok-push.ensures.items refl c.places.invariant

pub returns : goal.returns
returns c = below_all c.args.numbers.now c.args.others.now c.places.marks.items c.places.at c.requires c.places-test.false c.places.auto.at-end c.places.invariant
