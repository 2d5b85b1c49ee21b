use Rattle.cg_heap.proofs.Calls.{stands, has_node, place_told}
use Rattle.cg_heap.proofs.heap.Heap.place_of.Goals as goal

pub place_of-requires : goal.place_of-requires
place_of-requires g c = has_node (stands c.self.inside.arena c.self.invariant c.self.view_is) c.args.object c.requires

pub returns : goal.returns
returns g c = place_told (stands c.self.inside.arena c.self.invariant c.self.view_is) c.args.object c.requires c.place_of.result c.place_of.ensures
