use Rattle.std.proofs.Common.{sym, ◌∙◌}
use Rattle.cg_heap.proofs.BoxLemmas.{box_bodies}
use Rattle.cg_heap.proofs.boxes.Boxes.has_none.Goals as goal

pub returns : goal.returns
returns g c = λ yes. sym (box_bodies _ _ _ c.self.invariant c.self.view_is c.args.code c.index_of.ensures.index c.index-kind.ensures) ∙ c.is_empty.ensures yes
