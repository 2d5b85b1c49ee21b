use Rattle.std.proofs.Common.{sym, ◌∙◌}
use Rattle.cg_inspect.specs.Inspection.{HeldElse, arrows_of}
use Rattle.cg_inspect.specs.Order.{references_by}
use Rattle.cg_search.proofs.Trails.{no_path, shortest_path}
use Rattle.cg_inspect.proofs.Holdings.{arrows_out}
use Rattle.cg_inspect.proofs.Orders.{first_path}
use Rattle.cg_inspect.proofs.Found.{not_looked_up, placed}
use Rattle.cg_search.specs.Walks.{objects_in}
use Rattle.cg_inspect.proofs.path.why.Goals as goal

pub returns-in-Some-clause-reason : goal.returns-in-Some-clause-reason
returns-in-Some-clause-reason g c =
    shortest_path (HeldElse c.args.heap.now c.args.object) (arrows_of c.args.heap.now) c.in_ok-found.found.entries c.in_ok-found.ensures.found c.args.object
    c.in-Some.last c.in_ok-path_back-in-Some.field-0.items
    (placed c.args.object (objects_in c.in_ok-found.found.entries) c.in-Some.last (sym c.get_index_of.ensures.index ∙ c.in-Some.is)) c.in_ok-path_back-in-Some.ensures

pub returns-in-Some-clause-first : goal.returns-in-Some-clause-first
returns-in-Some-clause-first g c =
    first_path (references_by c.args.heap.now) (HeldElse c.args.heap.now c.args.object) (arrows_of c.args.heap.now) (arrows_out c.args.heap.now)
    c.in_ok-found.found.entries c.in_ok-found.ensures.found c.in_ok-found.ensures.order c.args.object c.in-Some.last c.in_ok-path_back-in-Some.field-0.items
    (placed c.args.object (objects_in c.in_ok-found.found.entries) c.in-Some.last (sym c.get_index_of.ensures.index ∙ c.in-Some.is)) c.in_ok-path_back-in-Some.ensures

pub returns-clause-reason : goal.returns-clause-reason
returns-clause-reason g c =
    no_path (HeldElse c.args.heap.now c.args.object) (arrows_of c.args.heap.now) c.in_ok-found.found.entries c.in_ok-found.ensures.found c.args.object
    (not_looked_up c.in_ok-found.found.entries c.args.object (sym c.in-None.ensures.found))
