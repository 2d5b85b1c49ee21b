use Rattle.std.proofs.Common.{◌≡◌, ◌↔◌, IsTrue, subst}
use Rattle.cg_heap.proofs.Calls.{stands, has_count, after_unhold}
use Rattle.cg_heap.proofs.heap.Heap.unhold.Goals as goal

pub dec-requires : goal.dec-requires
dec-requires g c = has_count (stands c.self.inside.arena c.self.invariant c.self.view_is) c.args.object c.requires

pub invariant_of-self : goal.invariant_of-self
invariant_of-self g c = (after_unhold (stands c.self.inside.arena c.self.invariant c.self.view_is) c.args.object c.requires _ c.dec.ensures.falls).keeps

pub returns-clause-less : goal.returns-clause-less
returns-clause-less g c = (after_unhold (stands c.self.inside.arena c.self.invariant c.self.view_is) c.args.object c.requires _ c.dec.ensures.falls).is

pub returns-clause-none : goal.returns-clause-none
returns-clause-none g c = subst (λ n. IsTrue c.dec.result ↔ (n ≡ 0)) ((after_unhold (stands c.self.inside.arena c.self.invariant c.self.view_is) c.args.object c.requires _
    c.dec.ensures.falls).keeps.0.counted c.args.object) c.dec.ensures.none
