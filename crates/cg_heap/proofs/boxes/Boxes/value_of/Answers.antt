use Rattle.std.proofs.Common.{ap, sym, subst, ◌∙◌}
use Rattle.cg_graph.specs.Value.{value_at}
use Rattle.cg_kind.specs.Bodies.{Holds, entries_at}
use Rattle.cg_heap.proofs.BoxLemmas.{box_bodies}
use Rattle.cg_heap.proofs.boxes.Boxes.value_of.Goals as goal

pub value_of-requires : goal.value_of-requires
value_of-requires g c = subst (λ b. Holds b c.args.seat.body) (sym (box_bodies _ _ _ c.self.invariant c.self.view_is c.args.seat.code c.index_of.ensures.index c.index-kind.ensures)) c.requires

pub returns : goal.returns
returns g c = c.value_of.ensures ∙ ap (λ b. value_at (entries_at b c.args.seat.body) c.args.key) (box_bodies _ _ _ c.self.invariant c.self.view_is c.args.seat.code c.index_of.ensures.index
    c.index-kind.ensures)
