use Rattle.std.proofs.Common.{ap, sym, subst, ◌∙◌}
use Rattle.std.specs.Prelude.{position}
use Rattle.cg_kind.specs.Bodies.{Holds, entries_at}
use Rattle.cg_kind.specs.Calls.{has_key}
use Rattle.cg_heap.proofs.BoxLemmas.{box_bodies}
use Rattle.cg_heap.proofs.boxes.Boxes.find.Goals as goal

pub find-requires : goal.find-requires
find-requires g c = subst (λ b. Holds b c.args.seat.body) (sym (box_bodies _ _ _ c.self.invariant c.self.view_is c.args.seat.code c.index_of.ensures.index c.index-kind.ensures)) c.requires

pub returns : goal.returns
returns g c = c.find.ensures ∙ ap (λ b. position (has_key c.args.key) (entries_at b c.args.seat.body)) (box_bodies _ _ _ c.self.invariant c.self.view_is c.args.seat.code c.index_of.ensures.index
    c.index-kind.ensures)
