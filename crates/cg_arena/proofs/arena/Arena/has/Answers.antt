use Rattle.indexmap.specs.IndexMap.{spare}
use Rattle.cg_arena.specs.Table.{rows_of}
use Rattle.cg_arena.proofs.Sound.{row_there, row_there_back, index_kept}
use Rattle.cg_arena.proofs.arena.Arena.has.Goals as goal

pub has-requires : goal.has-requires
has-requires c = index_kept c.self.inside.slots c.self.inside.ends c.self.inside.index c.self.invariant

pub returns : goal.returns
returns c = (
  λ yes. row_there_back c.self.inside.slots c.self.inside.ends (rows_of c.self.inside.slots) (spare c.self.inside.index.rows) c.args.self.now c.self.view_is c.args.serial (c.has.ensures.0 yes),
  λ has. c.has.ensures.1 (row_there c.self.inside.slots c.self.inside.ends (rows_of c.self.inside.slots) (spare c.self.inside.index.rows) c.args.self.now c.self.view_is c.args.serial has),
)
