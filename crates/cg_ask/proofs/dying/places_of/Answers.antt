use Rattle.cg_ask.proofs.Released.{wait_first, wait_pushed, wait_skip, wait_all}
use Rattle.cg_ask.proofs.dying.places_of.Goals as goal
use Rattle.cg_ask.proofs.dying.places_of.Goals.{then-marks-at+in_ok-push, else-marks-at}

pub places-init : goal.places-init
places-init c = wait_first c.args.marks.now c.new-places.result.items c.new-places.ensures.items

pub places-preserved : goal.places-preserved
places-preserved c = elim c.if-marks-at.branch [
  | then-marks-at+in_ok-push w ↦ rw (w.places-is) (wait_pushed c.args.marks.now c.places.at c.places.places.items w.push.new.self.items w.if-marks-at.true
      w.in_ok-push.ensures.items c.places.invariant)
  | else-marks-at w ↦ rw (w.places-is) (wait_skip c.args.marks.now c.places.at c.places.places.items w.if-marks-at.false c.places.invariant)
]

pub returns : goal.returns
returns c = wait_all c.args.marks.now c.places.at c.places.places.items c.places-test.false c.places.invariant
