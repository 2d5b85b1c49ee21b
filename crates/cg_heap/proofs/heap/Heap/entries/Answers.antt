use Rattle.cg_heap.proofs.Calls.{stands, entries_counted}
use Rattle.cg_heap.proofs.heap.Heap.entries.Goals as goal

pub returns : goal.returns
returns g c = entries_counted (stands c.self.inside.arena c.self.invariant c.self.view_is)
