use Rattle.cg_heap.proofs.Calls.{stands, is_sound}
use Rattle.cg_heap.proofs.heap.Heap.sound.Goals as goal

pub returns : goal.returns
returns g c = is_sound (stands c.self.inside.arena c.self.invariant c.self.view_is) c.size-untracked.ensures.listed
