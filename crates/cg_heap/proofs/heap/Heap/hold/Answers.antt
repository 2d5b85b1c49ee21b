use Rattle.std.proofs.Common.{◌∷◌, [], arith}
use Rattle.cg_heap.proofs.Calls.{stands, has_node, count_fits, holds_fit, after_hold}
use Rattle.cg_heap.proofs.heap.Heap.hold.Goals as goal

pub inc-requires-clause-has : goal.inc-requires-clause-has
inc-requires-clause-has g c = has_node (stands c.self.inside.arena c.self.invariant c.self.view_is) c.args.object c.requires.live

pub inc-requires-clause-room : goal.inc-requires-clause-room
inc-requires-clause-room g c = count_fits (stands c.self.inside.arena c.self.invariant c.self.view_is) c.args.object

pub invariant_of-self : goal.invariant_of-self
invariant_of-self g c = (after_hold (stands c.self.inside.arena c.self.invariant c.self.view_is) (c.args.object ∷ []) (holds_fit (stands c.self.inside.arena c.self.invariant c.self.view_is)
    c.requires.few (c.args.object ∷ []) (omega arith)) _ c.inc.ensures).keeps

pub returns : goal.returns
returns g c = (after_hold (stands c.self.inside.arena c.self.invariant c.self.view_is) (c.args.object ∷ []) (holds_fit (stands c.self.inside.arena c.self.invariant c.self.view_is) c.requires.few
    (c.args.object ∷ []) (omega arith)) _ c.inc.ensures).is
