use Rattle.std.proofs.Common.{ap, sym, subst, ◌∙◌, slice_get}
use Rattle.cg_kind.specs.Bodies.{Holds, entries_at}
use Rattle.cg_heap.proofs.BoxLemmas.{box_bodies}
use Rattle.cg_heap.proofs.boxes.Boxes.get.Goals as goal

pub get-requires : goal.get-requires
get-requires g c = subst (λ b. Holds b c.args.seat.body) (sym (box_bodies _ _ _ c.self.invariant c.self.view_is c.args.seat.code c.index_of.ensures.index c.index-kind.ensures)) c.requires

pub returns : goal.returns
returns g c = c.get.ensures ∙ ap (λ b. slice_get (entries_at b c.args.seat.body) c.args.i) (box_bodies _ _ _ c.self.invariant c.self.view_is c.args.seat.code c.index_of.ensures.index c.index-kind.ensures)
