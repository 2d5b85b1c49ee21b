use Rattle.cg_heap.proofs.Calls.{stands}
use Rattle.cg_heap.proofs.WeakCalls.{after_clear}
use Rattle.cg_heap.proofs.heap.Heap.clear_weak.Goals as goal

pub invariant_of-self : goal.invariant_of-self
invariant_of-self g c = (after_clear (stands c.self.inside.arena c.self.invariant c.self.view_is) c.args.weak c.args.wait _ c.clear.ensures.rows).keeps

pub returns : goal.returns
returns g c = (after_clear (stands c.self.inside.arena c.self.invariant c.self.view_is) c.args.weak c.args.wait _ c.clear.ensures.rows).is
