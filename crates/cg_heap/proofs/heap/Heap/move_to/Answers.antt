use Rattle.cg_heap.proofs.Calls.{stands, has_node, after_move}
use Rattle.cg_heap.proofs.heap.Heap.move_to.Goals as goal

pub move_to-requires-clause-has : goal.move_to-requires-clause-has
move_to-requires-clause-has g c = has_node (stands c.self.inside.arena c.self.invariant c.self.view_is) c.args.object c.requires.live

pub invariant_of-self : goal.invariant_of-self
invariant_of-self g c = (after_move (stands c.self.inside.arena c.self.invariant c.self.view_is) c.args.object c.args.place _ c.move_to.ensures).keeps

pub returns : goal.returns
returns g c = (after_move (stands c.self.inside.arena c.self.invariant c.self.view_is) c.args.object c.args.place _ c.move_to.ensures).is
