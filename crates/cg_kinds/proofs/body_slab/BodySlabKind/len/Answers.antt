use Rattle.std.proofs.Common.{◌≡◌, length}
use Rattle.cg_kinds.proofs.PlaceLemmas.{holds-key, of_place}
use Rattle.cg_kinds.proofs.body_slab.BodySlabKind.len.Goals as goal

pub index-requires : goal.index-requires
index-requires g c = holds-key g.C.Contents.body _ _ c.requires

pub returns : goal.returns
returns g c = of_place g.C.Contents.body _ _ _ c.index.ensures (λ b. c.len.result ≡ length b.entries) c.len.ensures
