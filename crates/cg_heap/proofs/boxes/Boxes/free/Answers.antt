use Rattle.std.proofs.Common.{◌≡◌, [], sym, subst}
use Rattle.std.specs.FinMap as fin
use Rattle.cg_kind.specs.Bodies.{Holds, entries_at}
use Rattle.cg_heap.proofs.BoxLemmas.{box_bodies, six_after, box_written}
use Rattle.cg_heap.proofs.boxes.Boxes.free.Goals as goal

pub free-requires-clause-held : goal.free-requires-clause-held
free-requires-clause-held g c = subst (λ b. Holds b c.args.seat.body) (sym (box_bodies _ _ _ c.self.invariant c.self.view_is c.args.seat.code c.index_of.ensures.index c.index_mut-kind.ensures.value))
    c.requires.held

pub free-requires-clause-empty : goal.free-requires-clause-empty
free-requires-clause-empty g c = subst (λ b. entries_at b c.args.seat.body ≡ []) (sym (box_bodies _ _ _ c.self.invariant c.self.view_is c.args.seat.code c.index_of.ensures.index
    c.index_mut-kind.ensures.value)) c.requires.empty

pub invariant_of-self : goal.invariant_of-self
invariant_of-self g c = six_after _ _ _ c.self.invariant c.self.view_is c.args.seat.code c.index_of.ensures.index c.index_mut-kind.ensures.value c.free.new.self c.free.ensures.same_kind

pub returns : goal.returns
returns g c = box_written _ _ _ c.self.invariant c.self.view_is c.args.seat.code c.index_of.ensures.index c.index_mut-kind.ensures.value c.free.new.self c.free.ensures.same_kind (λ k b. fin.remove b
    c.args.seat.body) c.free.ensures.gone
