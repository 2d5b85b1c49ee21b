use Rattle.cg_heap.proofs.Calls.{stands, objects_are}
use Rattle.cg_heap.proofs.heap.Heap.live.Goals as goal

pub returns : goal.returns
returns g c = objects_are (stands c.self.inside.arena c.self.invariant c.self.view_is)
