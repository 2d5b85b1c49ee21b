use Rattle.std.proofs.Common.{length, ap, sym, subst, ◌∙◌}
use Rattle.cg_kind.specs.Bodies.{Holds, entries_at}
use Rattle.cg_heap.proofs.BoxLemmas.{box_bodies}
use Rattle.cg_heap.proofs.boxes.Boxes.len.Goals as goal

pub len-requires : goal.len-requires
len-requires g c = subst (λ b. Holds b c.args.seat.body) (sym (box_bodies _ _ _ c.self.invariant c.self.view_is c.args.seat.code c.index_of.ensures.index c.index-kind.ensures)) c.requires

pub returns : goal.returns
returns g c = c.len.ensures ∙ ap (λ b. length (entries_at b c.args.seat.body)) (box_bodies _ _ _ c.self.invariant c.self.view_is c.args.seat.code c.index_of.ensures.index c.index-kind.ensures)
