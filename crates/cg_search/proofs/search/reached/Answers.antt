use Rattle.std.proofs.Common.{sym, ◌∙◌, ap, subst, List, ℕ, length, ◌<◌, arith, ◌++◌, Some, map}
use Rattle.std.specs.Prelude.{option_to_list}
use Rattle.std.proofs.lemmas.Option.{MatchOption-at_none}
use Rattle.cg_graph.specs.Member.{Includes}
use Rattle.cg_search.proofs.Visited.{popped_within, searches_first, searches_more, searched, includes_concat, row_here, empty_of}
use Rattle.cg_search.proofs.search.reached.Goals as goal

pub turns-init : goal.turns-init
turns-init g c =
    searches_first c.args.starts.now c.args.allowed.now (map g.N.Node.points_to c.args.nodes.now) c.in_ok-marks.marks.items c.visit_starts.new.marks.items
    c.new-waits.result.items c.visit_starts.new.waits.items
    (c.in_ok-marks.ensures.items_if_clones_equal (λ y e. e)) c.new-waits.ensures.items c.in_ok-visit_starts.ensures

pub offset_bounds-nodes-at : goal.offset_bounds-nodes-at
offset_bounds-nodes-at g c =
    let within = popped_within c.args.starts.now c.args.allowed.now (map g.N.Node.points_to c.args.nodes.now) c.turns.marks.items c.turns.waits.items
    c.pop.new.self.items c.pop.result c.in-Some.at c.turns.invariant c.pop.ensures.items c.in-Some.is in
    omega (arith, within, c.requires.long)

pub bounds-nodes-at : goal.bounds-nodes-at
bounds-nodes-at g c =
    let within = popped_within c.args.starts.now c.args.allowed.now (map g.N.Node.points_to c.args.nodes.now) c.turns.marks.items c.turns.waits.items
    c.pop.new.self.items c.pop.result c.in-Some.at c.turns.invariant c.pop.ensures.items c.in-Some.is in
    omega (arith, within, c.requires.long)

pub visit_row-requires-clause-within : goal.visit_row-requires-clause-within
visit_row-requires-clause-within g c = λ i h.
    let within = popped_within c.args.starts.now c.args.allowed.now (map g.N.Node.points_to c.args.nodes.now) c.turns.marks.items c.turns.waits.items
    c.pop.new.self.items c.pop.result c.in-Some.at c.turns.invariant c.pop.ensures.items c.in-Some.is in
    let below : c.in-Some.at < length c.args.nodes.now = omega (arith, within, c.requires.long) in
    c.requires.within i
    (includes_concat (map g.N.Node.points_to c.args.nodes.now) c.in-Some.at (g.N.Node.points_to c.index-nodes-at.result) i
    (row_here g.N.Node.points_to c.args.nodes.now c.in-Some.at c.index-nodes-at.result below c.index-nodes-at.is)
    (subst (λ (ns : List ℕ). Includes ns i) c.targets.ensures h))

pub turns-preserved : goal.turns-preserved
turns-preserved g c =
    let within = popped_within c.args.starts.now c.args.allowed.now (map g.N.Node.points_to c.args.nodes.now) c.turns.marks.items c.turns.waits.items
    c.pop.new.self.items c.pop.result c.in-Some.at c.turns.invariant c.pop.ensures.items c.in-Some.is in
    let below : c.in-Some.at < length c.args.nodes.now = omega (arith, within, c.requires.long) in
    searches_more c.args.starts.now c.args.allowed.now (map g.N.Node.points_to c.args.nodes.now) c.turns.marks.items c.visit_row.new.marks.items
    c.turns.waits.items c.pop.new.self.items c.visit_row.new.waits.items c.in-Some.at c.targets.result.now c.turns.invariant
    (c.pop.ensures.items ∙ ap (λ o. c.pop.new.self.items ++ option_to_list o) c.in-Some.is)
    (row_here g.N.Node.points_to c.args.nodes.now c.in-Some.at c.index-nodes-at.result below c.index-nodes-at.is ∙ ap Some (sym c.targets.ensures)) c.in_ok-visit_row.ensures

pub returns-clause-led : goal.returns-clause-led
returns-clause-led g c =
    let none = (MatchOption-at_none _ _ c.in_default.is c.pop.ensures.cases).0 in
    searched c.args.starts.now c.args.allowed.now (map g.N.Node.points_to c.args.nodes.now) c.turns.marks.items c.turns.waits.items c.turns.invariant
    (empty_of c.turns.waits.items (grind (arith, none, c.turns.waits.ok)))
