use Rattle.std.proofs.Common.{◌≡◌, ◌<◌, length, Some}
use Rattle.std.specs.Prelude.{slice_get}
use Rattle.cg_kinds.proofs.PlaceLemmas.{holds-key, of_value, of_place}
use Rattle.cg_kinds.proofs.body_slab.BodySlabKind.entry_at.Goals as goal

pub index-requires : goal.index-requires
index-requires g c = holds-key g.C.Contents.body _ _ c.requires.held

pub entry_at-requires : goal.entry_at-requires
entry_at-requires g c = of_value g.C.Contents.body _ _ _ c.index.ensures (λ b. c.args.i < length b.entries) c.requires.within

pub returns : goal.returns
returns g c = of_place g.C.Contents.body _ _ _ c.index.ensures (λ b. slice_get b.entries c.args.i ≡ Some c.entry_at.result) c.entry_at.ensures
