use Rattle.std.proofs.Common.{sym, ◌∙◌, map}
use Rattle.cg_search.specs.Places.{StartsAt, steps_of}
use Rattle.cg_search.proofs.Edges.{shortest_of_path, none_of_path}
use Rattle.cg_search.proofs.Trails.{shortest_path, no_path}
use Rattle.cg_search.proofs.Walking.{found_place, no_place}
use Rattle.cg_search.proofs.way.shortest_way.Goals as goal

pub returns-in-Some-clause-found : goal.returns-in-Some-clause-found
returns-in-Some-clause-found g c =
    let rows = map g.N.Node.points_to c.args.nodes.now in
    shortest_of_path c.args.allowed.now rows c.args.starts.now c.in_ok-path_back-in-Some.field-0.items c.args.target
    (shortest_path (StartsAt c.args.starts.now c.args.allowed.now) (steps_of c.args.allowed.now rows) c.in_ok-found.found.items c.in_ok-found.ensures
    c.args.target c.in-Some.last c.in_ok-path_back-in-Some.field-0.items
    (found_place c.args.target c.in_ok-found.found.items c.in-Some.last (sym c.position_in.ensures ∙ c.in-Some.is)) c.in_ok-path_back-in-Some.ensures)

pub returns-clause-none : goal.returns-clause-none
returns-clause-none g c =
    let rows = map g.N.Node.points_to c.args.nodes.now in
    none_of_path c.args.allowed.now rows c.args.starts.now c.args.target
    (no_path (StartsAt c.args.starts.now c.args.allowed.now) (steps_of c.args.allowed.now rows) c.in_ok-found.found.items c.in_ok-found.ensures c.args.target
    (no_place c.args.target c.in_ok-found.found.items (sym c.position_in.ensures ∙ c.in-None.is)))
