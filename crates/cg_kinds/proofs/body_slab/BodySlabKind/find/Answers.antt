use Rattle.std.proofs.Common.{◌≡◌}
use Rattle.std.specs.Prelude.{position}
use Rattle.cg_kind.specs.Calls.{has_key}
use Rattle.cg_kinds.proofs.PlaceLemmas.{holds-key, of_place}
use Rattle.cg_kinds.proofs.body_slab.BodySlabKind.find.Goals as goal

pub index-requires : goal.index-requires
index-requires g c = holds-key g.C.Contents.body _ _ c.requires

pub returns : goal.returns
returns g c = of_place g.C.Contents.body _ _ _ c.index.ensures (λ b. c.find.result ≡ position (has_key c.args.key) b.entries) c.find.ensures
