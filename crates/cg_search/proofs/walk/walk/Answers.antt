use Rattle.std.proofs.Common.{sym, ◌∙◌, ap, subst, List, ℕ, length, ◌<◌, arith, Some, map, refl}
use Rattle.std.proofs.lemmas.Option.{slice_get_read}
use Rattle.cg_graph.specs.Member.{Includes}
use Rattle.cg_search.specs.Places.{StartsAt, steps_of}
use Rattle.cg_search.proofs.Trails.{spread_first}
use Rattle.cg_search.proofs.Visited.{includes_concat, row_here}
use Rattle.cg_search.proofs.Walking.{agree_first, place_within, walks_more, walks_over}
use Rattle.cg_search.proofs.walk.walk.Goals as goal

pub find_starts-requires-clause-agree : goal.find_starts-requires-clause-agree
find_starts-requires-clause-agree g c = agree_first c.args.allowed.now c.in_ok-marks.marks.items c.new-found.result.items
    (c.in_ok-marks.ensures.items_if_clones_equal (λ y e. e)) c.new-found.ensures.items

pub turns-init : goal.turns-init
turns-init g c = record {
  agree = c.in_ok-find_starts.ensures.agree;
  spread = spread_first (StartsAt c.args.starts.now c.args.allowed.now) (steps_of c.args.allowed.now (map g.N.Node.points_to c.args.nodes.now))
      c.find_starts.new.found.items c.in_ok-find_starts.ensures.starts;
}

pub offset_bounds-nodes-place : goal.offset_bounds-nodes-place
offset_bounds-nodes-place g c =
    let here : c.turns.at < length c.turns.found.items = omega (arith, c.turns-test.true, c.len.ensures) in
    let within = place_within c.args.allowed.now c.turns.marks.items c.turns.found.items c.turns.at c.index.result.now c.turns.invariant.agree
    (slice_get_read c.turns.found.items (length c.turns.found.items) c.turns.at c.index.result.now refl here c.index.ensures) in
    omega (arith, within, c.requires.long)

pub bounds-nodes-place : goal.bounds-nodes-place
bounds-nodes-place g c =
    let here : c.turns.at < length c.turns.found.items = omega (arith, c.turns-test.true, c.len.ensures) in
    let within = place_within c.args.allowed.now c.turns.marks.items c.turns.found.items c.turns.at c.index.result.now c.turns.invariant.agree
    (slice_get_read c.turns.found.items (length c.turns.found.items) c.turns.at c.index.result.now refl here c.index.ensures) in
    omega (arith, within, c.requires.long)

pub find_row-requires-clause-within : goal.find_row-requires-clause-within
find_row-requires-clause-within g c = λ i h.
    let here : c.turns.at < length c.turns.found.items = omega (arith, c.turns-test.true, c.len.ensures) in
    let within = place_within c.args.allowed.now c.turns.marks.items c.turns.found.items c.turns.at c.index.result.now c.turns.invariant.agree
    (slice_get_read c.turns.found.items (length c.turns.found.items) c.turns.at c.index.result.now refl here c.index.ensures) in
    let below : c.index.result.now.0 < length c.args.nodes.now = omega (arith, within, c.requires.long) in
    c.requires.within i
    (includes_concat (map g.N.Node.points_to c.args.nodes.now) c.index.result.now.0 (g.N.Node.points_to c.index-nodes-place.result) i
    (row_here g.N.Node.points_to c.args.nodes.now c.index.result.now.0 c.index-nodes-place.result below c.index-nodes-place.is)
    (subst (λ (ns : List ℕ). Includes ns i) c.targets.ensures h))

pub turns-preserved : goal.turns-preserved
turns-preserved g c =
    let here : c.turns.at < length c.turns.found.items = omega (arith, c.turns-test.true, c.len.ensures) in
    let is = slice_get_read c.turns.found.items (length c.turns.found.items) c.turns.at c.index.result.now refl here c.index.ensures in
    let within = place_within c.args.allowed.now c.turns.marks.items c.turns.found.items c.turns.at c.index.result.now c.turns.invariant.agree is in
    let below : c.index.result.now.0 < length c.args.nodes.now = omega (arith, within, c.requires.long) in
    walks_more c.args.starts.now c.args.allowed.now (map g.N.Node.points_to c.args.nodes.now) c.turns.marks.items c.find_row.new.marks.items c.turns.found.items
    c.find_row.new.found.items c.turns.at c.index.result.now.0 c.index.result.now.1 c.targets.result.now c.turns.invariant is
    (row_here g.N.Node.points_to c.args.nodes.now c.index.result.now.0 c.index-nodes-place.result below c.index-nodes-place.is
    ∙ ap Some (sym c.targets.ensures)) c.in_ok-find_row.ensures.agree c.in_ok-find_row.ensures.finds

pub turns-smaller : goal.turns-smaller
turns-smaller g c = omega (arith, c.turns.invariant.agree.left, c.turns-test.true, c.len.ensures)

pub returns : goal.returns
returns g c = walks_over c.args.starts.now c.args.allowed.now (map g.N.Node.points_to c.args.nodes.now) c.turns.marks.items c.turns.found.items c.turns.at
    c.turns.invariant (omega (arith, c.turns-test.false, c.len.ensures))
