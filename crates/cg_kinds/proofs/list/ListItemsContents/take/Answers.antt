use Rattle.std.proofs.Common.{ap, ◌∙◌, map}
use Rattle.indexmap.proofs.SetLemmas.{map-remove}
use Rattle.cg_graph.specs.Value.{item}
use Rattle.cg_kind.specs.Bodies.{body_of}
use Rattle.cg_kinds.specs.Listed.{items_listed}
use Rattle.cg_kinds.proofs.list.ListItemsContents.take.Goals as goal

pub returns-clause-rest : goal.returns-clause-rest
returns-clause-rest c = λ j. body_of ((ap (map item) c.remove.ensures.items ∙ map-remove item (items_listed c.args.self.now.values) c.args.i) j) (c.remove.ensures.room j)
