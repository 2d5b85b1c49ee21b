use Rattle.cg_heap.proofs.Calls.{stands}
use Rattle.cg_heap.proofs.MakeCalls.{after_hand_over}
use Rattle.cg_heap.proofs.heap.Heap.hand_over.Goals as goal

pub invariant_of-self : goal.invariant_of-self
invariant_of-self g c = (after_hand_over (stands c.self.inside.arena c.self.invariant c.self.view_is) c.args.name _ c.replace.ensures.old c.args.object c.requires.held c.requires.few _
    c.replace.ensures.set).keeps

pub returns-clause-rest : goal.returns-clause-rest
returns-clause-rest g c = (after_hand_over (stands c.self.inside.arena c.self.invariant c.self.view_is) c.args.name _ c.replace.ensures.old c.args.object c.requires.held c.requires.few _
    c.replace.ensures.set).is
