use Rattle.std.proofs.Common.{subst, sym, ap, ◌∙◌}
use Rattle.cg_arena.specs.Nodes.{TakesNumber}
use Rattle.cg_heap.specs.Calls.{with_node, with_number}
use Rattle.cg_heap.proofs.Calls.{stands, has_node, place_same, after_number, count_is}
use Rattle.cg_heap.proofs.heap.Heap.set_gc_to_refs.Goals as goal

pub set_gc_to_count-requires-clause-has : goal.set_gc_to_count-requires-clause-has
set_gc_to_count-requires-clause-has g c = has_node (stands c.self.inside.arena c.self.invariant c.self.view_is) c.args.object c.requires.live

pub set_gc_to_count-requires-clause-place : goal.set_gc_to_count-requires-clause-place
set_gc_to_count-requires-clause-place g c = subst TakesNumber (sym (place_same (stands c.self.inside.arena c.self.invariant c.self.view_is) c.args.object)) c.requires.place

pub invariant_of-self : goal.invariant_of-self
invariant_of-self g c = (after_number (stands c.self.inside.arena c.self.invariant c.self.view_is) c.args.object _ _ c.set_gc_to_count.ensures).keeps

pub returns : goal.returns
returns g c = (after_number (stands c.self.inside.arena c.self.invariant c.self.view_is) c.args.object _ _ c.set_gc_to_count.ensures).is ∙ ap (λ k. with_node (with_number k) c.args.object
    c.args.self.now) (count_is (stands c.self.inside.arena c.self.invariant c.self.view_is) c.args.object)
