use Rattle.cg_heap.proofs.Calls.{stands, has_node, after_mark}
use Rattle.cg_heap.proofs.heap.Heap.set_finalized.Goals as goal

pub set_finalized-requires : goal.set_finalized-requires
set_finalized-requires g c = has_node (stands c.self.inside.arena c.self.invariant c.self.view_is) c.args.object c.requires

pub invariant_of-self : goal.invariant_of-self
invariant_of-self g c = (after_mark (stands c.self.inside.arena c.self.invariant c.self.view_is) c.args.object _ c.set_finalized.ensures).keeps

pub returns : goal.returns
returns g c = (after_mark (stands c.self.inside.arena c.self.invariant c.self.view_is) c.args.object _ c.set_finalized.ensures).is
