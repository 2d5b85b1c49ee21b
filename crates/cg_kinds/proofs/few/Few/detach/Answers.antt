use Rattle.cg_kinds.proofs.KeysOnce.{once_popped}
use Rattle.cg_kinds.proofs.few.Few.detach.Goals as goal

pub invariant_of-self : goal.invariant_of-self
invariant_of-self c = once_popped _ _ _ c.pop.ensures.items c.self.invariant
