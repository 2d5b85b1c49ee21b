use Rattle.cg_kinds.proofs.PlaceLemmas.{holds-key, bodies-gone}
use Rattle.cg_kinds.proofs.body_slab.BodySlabKind.free.Goals as goal

pub remove-requires : goal.remove-requires
remove-requires g c = holds-key g.C.Contents.body _ _ c.requires.held

pub returns-clause-gone : goal.returns-clause-gone
returns-clause-gone g c = bodies-gone g.C.Contents.body _ _ _ c.remove.ensures.updates
