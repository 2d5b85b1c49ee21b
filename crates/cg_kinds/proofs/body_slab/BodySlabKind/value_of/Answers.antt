use Rattle.std.proofs.Common.{◌≡◌}
use Rattle.cg_graph.specs.Value.{value_at}
use Rattle.cg_kinds.proofs.PlaceLemmas.{holds-key, of_place}
use Rattle.cg_kinds.proofs.body_slab.BodySlabKind.value_of.Goals as goal

pub index-requires : goal.index-requires
index-requires g c = holds-key g.C.Contents.body _ _ c.requires

pub returns : goal.returns
returns g c = of_place g.C.Contents.body _ _ _ c.index.ensures (λ b. c.value_of.result ≡ value_at b.entries c.args.key) c.value_of.ensures
