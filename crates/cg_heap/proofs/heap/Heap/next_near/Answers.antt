use Rattle.std.proofs.Common.{◌∙◌}
use Rattle.cg_heap.proofs.Calls.{stands, has_node, next_here}
use Rattle.cg_heap.proofs.heap.Heap.next_near.Goals as goal

pub next_near-requires : goal.next_near-requires
next_near-requires g c = has_node (stands c.self.inside.arena c.self.invariant c.self.view_is) c.args.object c.requires

pub returns : goal.returns
returns g c = c.next_near.ensures ∙ next_here (stands c.self.inside.arena c.self.invariant c.self.view_is) c.args.object
