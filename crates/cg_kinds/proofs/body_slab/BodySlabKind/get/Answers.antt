use Rattle.std.proofs.Common.{◌≡◌}
use Rattle.std.specs.Prelude.{slice_get}
use Rattle.cg_kinds.proofs.PlaceLemmas.{holds-key, of_place}
use Rattle.cg_kinds.proofs.body_slab.BodySlabKind.get.Goals as goal

pub index-requires : goal.index-requires
index-requires g c = holds-key g.C.Contents.body _ _ c.requires

pub returns : goal.returns
returns g c = of_place g.C.Contents.body _ _ _ c.index.ensures (λ b. c.get.result ≡ slice_get b.entries c.args.i) c.get.ensures
