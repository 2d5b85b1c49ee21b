use Rattle.std.proofs.Common.{None, arith}
use Rattle.cg_heap.proofs.CountAll.{none-counted}
use Rattle.cg_heap.proofs.Calls.{stands, after_name}
use Rattle.cg_heap.proofs.heap.Heap.unbind.Goals as goal

pub invariant_of-self : goal.invariant_of-self
invariant_of-self g c = (after_name (stands c.self.inside.arena c.self.invariant c.self.view_is) c.args.name _ None c.replace.ensures.old (λ s there. absurd (omega (arith, there))) c.requires.few
    c.self.inside.arena (none-counted c.self.inside.arena) _ c.replace.ensures.set).keeps

pub returns-clause-rest : goal.returns-clause-rest
returns-clause-rest g c = (after_name (stands c.self.inside.arena c.self.invariant c.self.view_is) c.args.name _ None c.replace.ensures.old (λ s there. absurd (omega (arith, there))) c.requires.few
    c.self.inside.arena (none-counted c.self.inside.arena) _ c.replace.ensures.set).is
