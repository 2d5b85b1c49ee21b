use Rattle.cg_heap.proofs.Calls.{stands, none_of_kind}
use Rattle.cg_heap.proofs.heap.Heap.has_none.Goals as goal

pub returns : goal.returns
returns g c = λ yes. none_of_kind (stands c.self.inside.arena c.self.invariant c.self.view_is) c.args.code (c.has_none.ensures yes)
