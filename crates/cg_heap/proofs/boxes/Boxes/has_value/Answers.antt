use Rattle.cg_heap.proofs.BoxLemmas.{value_found}
use Rattle.cg_heap.proofs.boxes.Boxes.has_value.Goals as goal

pub returns-in_default : goal.returns-in_default
returns-in_default g c = value_found c.args.seat.code _ c.args.key c.is_some.result c.find.result c.in_default.not-List c.requires.mutable c.is_some.ensures c.find.ensures
