use Rattle.cg_heap.proofs.Calls.{stands, after_merge}
use Rattle.cg_heap.proofs.heap.Heap.merge.Goals as goal

pub invariant_of-self : goal.invariant_of-self
invariant_of-self g c = (after_merge (stands c.self.inside.arena c.self.invariant c.self.view_is) c.args.from c.args.to _ c.merge.ensures).keeps

pub returns : goal.returns
returns g c = (after_merge (stands c.self.inside.arena c.self.invariant c.self.view_is) c.args.from c.args.to _ c.merge.ensures).is
