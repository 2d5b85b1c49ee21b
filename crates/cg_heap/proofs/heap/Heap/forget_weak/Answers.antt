use Rattle.cg_heap.proofs.Calls.{stands}
use Rattle.cg_heap.proofs.WeakCalls.{after_forget}
use Rattle.cg_heap.proofs.heap.Heap.forget_weak.Goals as goal

pub invariant_of-self : goal.invariant_of-self
invariant_of-self g c = (after_forget (stands c.self.inside.arena c.self.invariant c.self.view_is) c.args.weak _ c.forget.ensures.rows).keeps

pub returns : goal.returns
returns g c = (after_forget (stands c.self.inside.arena c.self.invariant c.self.view_is) c.args.weak _ c.forget.ensures.rows).is
