use Rattle.std.proofs.Common.{ap, map, ◌∙◌}
use Rattle.cg_graph.specs.Value.{item}
use Rattle.cg_kind.specs.Bodies.{body_of}
use Rattle.cg_kinds.specs.Listed.{items_listed}
use Rattle.cg_kinds.proofs.ItemLemmas.{values-put, value-under}
use Rattle.cg_kinds.proofs.list.ListItemsContents.put.Goals as goal

pub returns-clause-ok : goal.returns-clause-ok
returns-clause-ok c =
    let values = items_listed c.args.self.now.values in
    λ j. body_of ((ap (map item) c.set.ensures.items ∙ values-put values c.args.key c.index_of-i.result c.args.val c.index_of-i.ensures) j) (c.set.ensures.room j)

pub returns-clause-replaced : goal.returns-clause-replaced
returns-clause-replaced c = value-under (items_listed c.args.self.now.values) c.args.key c.index_of-i.result c.val-replaced.result c.index_of-i.ensures c.val-replaced.ensures
