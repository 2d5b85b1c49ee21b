use Rattle.std.proofs.Common.{◌≡◌, []}
use Rattle.cg_search.specs.Places.{Marks}
use Rattle.cg_ask.proofs.Rows.{rows_first, marked_push, marked_skip, marked_all}
use Rattle.cg_ask.proofs.lines.put_marked.Goals as goal
use Rattle.cg_ask.proofs.lines.put_marked.Goals.{then-marks-at+in_ok-put_line, else-marks-at}

pub places-init : goal.places-init
places-init c = rows_first (λ m ns. Marks c.args.marks.now m × (ns ≡ [])) c.args.word.now c.args.out.now.items

pub places-preserved : goal.places-preserved
places-preserved c = elim c.if-marks-at.branch [
  | then-marks-at+in_ok-put_line w ↦ rw (w.out-is) (marked_push c.args.marks.now c.args.word.now c.places.at c.args.out.now.items c.places.out.items
      w.put_line.new.out.items w.if-marks-at.true w.in_ok-put_line.ensures c.places.invariant)
  | else-marks-at w ↦ rw (w.out-is) (marked_skip c.args.marks.now c.args.word.now c.places.at c.args.out.now.items c.places.out.items w.if-marks-at.false c.places.invariant)
]

pub returns : goal.returns
returns c = marked_all c.args.marks.now c.args.word.now c.places.at c.args.out.now.items c.places.out.items c.places-test.false c.places.invariant
