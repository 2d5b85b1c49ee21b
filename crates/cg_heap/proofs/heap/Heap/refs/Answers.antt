use Rattle.cg_heap.proofs.Calls.{stands, has_node, count_told}
use Rattle.cg_heap.proofs.heap.Heap.refs.Goals as goal

pub count_of-requires : goal.count_of-requires
count_of-requires g c = has_node (stands c.self.inside.arena c.self.invariant c.self.view_is) c.args.object c.requires

pub returns-clause-count : goal.returns-clause-count
returns-clause-count g c = count_told (stands c.self.inside.arena c.self.invariant c.self.view_is) c.args.object c.requires c.count_of.result c.count_of.ensures
