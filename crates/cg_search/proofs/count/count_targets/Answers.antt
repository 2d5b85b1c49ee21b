use Rattle.std.proofs.Common.{sym, ◌∙◌, ◌<◌, length, map, arith}
use Rattle.std.proofs.lemmas.List.{length-map}
use Rattle.cg_search.proofs.Counting.{counts_first, counts_room, counts_more, counts_skip, row_of_node}
use Rattle.cg_search.proofs.count.count_targets.Goals as goal
use Rattle.cg_search.proofs.count.count_targets.Goals.{then-marks-at, else-marks-at}

pub nodes-init : goal.nodes-init
nodes-init g c = counts_first c.args.marks.now (map g.N.Node.points_to c.args.nodes.now) (length c.args.nodes.now) c.in_ok-counts.counts.items
    (c.in_ok-counts.ensures.items_if_clones_equal (λ y e. e)) (sym (length-map c.args.nodes.now g.N.Node.points_to))

pub add_row-requires : goal.add_row-requires
add_row-requires g c =
    let rows = map g.N.Node.points_to c.args.nodes.now in
    let within : c.nodes.at < length (map g.N.Node.points_to c.args.nodes.now) = omega (arith, c.nodes-test.true, length-map c.args.nodes.now g.N.Node.points_to) in
    counts_room c.args.marks.now rows c.nodes.at c.nodes.counts.items c.targets.result.now within
    (row_of_node g.N.Node.points_to c.args.nodes.now c.nodes.at c.index-nodes-at.result c.targets.result.now c.nodes-test.true c.index-nodes-at.is c.targets.ensures) c.requires.few c.nodes.invariant

pub nodes-preserved : goal.nodes-preserved
nodes-preserved g c = elim c.if-marks-at.branch [
  | then-marks-at w ↦
      let rows = map g.N.Node.points_to c.args.nodes.now in
      let within : c.nodes.at < length (map g.N.Node.points_to c.args.nodes.now) = omega (arith, c.nodes-test.true, length-map c.args.nodes.now g.N.Node.points_to) in
      rw (w.counts-is)
      (counts_more c.args.marks.now rows c.nodes.at c.nodes.counts.items w.add_row.new.counts.items w.targets.result.now within (c.requires.marked
      ∙ sym (length-map c.args.nodes.now g.N.Node.points_to))
      (row_of_node g.N.Node.points_to c.args.nodes.now c.nodes.at w.index-nodes-at.result w.targets.result.now c.nodes-test.true w.index-nodes-at.is
      w.targets.ensures) w.if-marks-at.true c.nodes.invariant w.add_row.ensures)
  | else-marks-at w ↦
      let within : c.nodes.at < length (map g.N.Node.points_to c.args.nodes.now) = omega (arith, c.nodes-test.true, length-map c.args.nodes.now g.N.Node.points_to) in
      rw (w.counts-is) (counts_skip c.args.marks.now (map g.N.Node.points_to c.args.nodes.now) c.nodes.at c.nodes.counts.items within (c.requires.marked
      ∙ sym (length-map c.args.nodes.now g.N.Node.points_to)) w.if-marks-at.false c.nodes.invariant)
]
