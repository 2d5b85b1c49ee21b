use Rattle.std.proofs.Common.{◌<◌, length, ap, sym, subst, ◌∙◌, slice_get}
use Rattle.cg_kind.specs.Bodies.{Holds, entries_at}
use Rattle.cg_heap.proofs.BoxLemmas.{box_bodies}
use Rattle.cg_heap.proofs.boxes.Boxes.entry_at.Goals as goal

pub entry_at-requires-clause-held : goal.entry_at-requires-clause-held
entry_at-requires-clause-held g c = subst (λ b. Holds b c.args.seat.body) (sym (box_bodies _ _ _ c.self.invariant c.self.view_is c.args.seat.code c.index_of.ensures.index c.index-kind.ensures))
    c.requires.held

pub entry_at-requires-clause-within : goal.entry_at-requires-clause-within
entry_at-requires-clause-within g c = subst (λ b. c.args.i < length (entries_at b c.args.seat.body)) (sym (box_bodies _ _ _ c.self.invariant c.self.view_is c.args.seat.code c.index_of.ensures.index
    c.index-kind.ensures)) c.requires.within

pub returns : goal.returns
returns g c = ap (λ b. slice_get (entries_at b c.args.seat.body) c.args.i) (sym (box_bodies _ _ _ c.self.invariant c.self.view_is c.args.seat.code c.index_of.ensures.index c.index-kind.ensures)) ∙
    c.entry_at.ensures
