use Rattle.std.proofs.Common.{◌≡◌, ◌<◌, length, Some}
use Rattle.std.specs.Prelude.{slice_get}
use Rattle.cg_kind.specs.Bodies.{body_of}
use Rattle.cg_kind.specs.Calls.{after_take, spare_after_leave}
use Rattle.cg_kinds.proofs.PlaceLemmas.{holds-key, of_value, of_place, rewritten}
use Rattle.cg_kinds.proofs.body_slab.BodySlabKind.take.Goals as goal

pub index_mut-requires : goal.index_mut-requires
index_mut-requires g c = holds-key g.C.Contents.body _ _ c.requires.held

pub take-requires : goal.take-requires
take-requires g c = of_value g.C.Contents.body _ _ _ c.index_mut.ensures.value (λ b. c.args.i < length b.entries) c.requires.within

pub returns-clause-entry : goal.returns-clause-entry
returns-clause-entry g c =
    of_place g.C.Contents.body _ _ _ c.index_mut.ensures.value (λ b. slice_get b.entries c.args.i ≡ Some c.take.result) c.take.ensures.entry

pub returns-clause-rest : goal.returns-clause-rest
returns-clause-rest g c =
    rewritten g.C.Contents.body _ _ _ c.index_mut.ensures.value
    (λ b. body_of (after_take g.C.Contents.kind b.entries c.args.i) (spare_after_leave g.C.Contents.kind b.spare))
    c.take.new.self c.take.ensures.rest
