use Rattle.std.proofs.Common.{◌<◌, length, ap, sym, subst, ◌∙◌, slice_get}
use Rattle.cg_kind.specs.Bodies.{Holds, entries_at, spare_at, with_body}
use Rattle.cg_kind.specs.Calls.{after_take, spare_after_leave}
use Rattle.cg_heap.proofs.BoxLemmas.{box_bodies, six_after, box_written}
use Rattle.cg_heap.proofs.boxes.Boxes.take.Goals as goal

pub take-entry-requires-clause-held : goal.take-entry-requires-clause-held
take-entry-requires-clause-held g c = subst (λ b. Holds b c.args.seat.body) (sym (box_bodies _ _ _ c.self.invariant c.self.view_is c.args.seat.code c.index_of.ensures.index c.index_mut-kind.ensures.value))
    c.requires.held

pub take-entry-requires-clause-within : goal.take-entry-requires-clause-within
take-entry-requires-clause-within g c = subst (λ b. c.args.i < length (entries_at b c.args.seat.body)) (sym (box_bodies _ _ _ c.self.invariant c.self.view_is c.args.seat.code c.index_of.ensures.index
    c.index_mut-kind.ensures.value)) c.requires.within

pub invariant_of-self : goal.invariant_of-self
invariant_of-self g c = six_after _ _ _ c.self.invariant c.self.view_is c.args.seat.code c.index_of.ensures.index c.index_mut-kind.ensures.value c.take-entry.new.self c.take-entry.ensures.same_kind

pub returns-clause-entry : goal.returns-clause-entry
returns-clause-entry g c = ap (λ b. slice_get (entries_at b c.args.seat.body) c.args.i) (sym (box_bodies _ _ _ c.self.invariant c.self.view_is c.args.seat.code c.index_of.ensures.index
    c.index_mut-kind.ensures.value)) ∙ c.take-entry.ensures.entry

pub returns-clause-rest : goal.returns-clause-rest
returns-clause-rest g c = box_written _ _ _ c.self.invariant c.self.view_is c.args.seat.code c.index_of.ensures.index c.index_mut-kind.ensures.value c.take-entry.new.self c.take-entry.ensures.same_kind (λ
    k b. with_body b c.args.seat.body (after_take k (entries_at b c.args.seat.body) c.args.i) (spare_after_leave k (spare_at b c.args.seat.body))) c.take-entry.ensures.rest
