use Rattle.std.proofs.Common.{subst, sym}
use Rattle.cg_arena.specs.Nodes.{TakesNumber}
use Rattle.cg_heap.proofs.Calls.{stands, has_node, place_same, after_number}
use Rattle.cg_heap.proofs.heap.Heap.set_gc.Goals as goal

pub set_gc-requires-clause-has : goal.set_gc-requires-clause-has
set_gc-requires-clause-has g c = has_node (stands c.self.inside.arena c.self.invariant c.self.view_is) c.args.object c.requires.live

pub set_gc-requires-clause-place : goal.set_gc-requires-clause-place
set_gc-requires-clause-place g c = subst TakesNumber (sym (place_same (stands c.self.inside.arena c.self.invariant c.self.view_is) c.args.object)) c.requires.place

pub invariant_of-self : goal.invariant_of-self
invariant_of-self g c = (after_number (stands c.self.inside.arena c.self.invariant c.self.view_is) c.args.object c.args.number _ c.set_gc.ensures).keeps

pub returns : goal.returns
returns g c = (after_number (stands c.self.inside.arena c.self.invariant c.self.view_is) c.args.object c.args.number _ c.set_gc.ensures).is
