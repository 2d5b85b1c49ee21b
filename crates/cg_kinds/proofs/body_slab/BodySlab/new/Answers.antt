use Rattle.cg_kinds.proofs.PlaceLemmas.{bodies-empty}
use Rattle.cg_kinds.proofs.body_slab.BodySlab.new.Goals as goal

pub returns-clause-empty : goal.returns-clause-empty
returns-clause-empty g c = bodies-empty g.C.Contents.body _ c.new.ensures.empty
