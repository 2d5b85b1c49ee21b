use Rattle.std.proofs.Common.{◌≤◌}
use Rattle.std.specs.Prelude.{OnOk}
use Rattle.std.proofs.lemmas.Result.{on_ok_weaker, on_err_weaker}
use Rattle.cg_kinds.proofs.PlaceLemmas.{holds-key, of_places, with_spare, kept}
use Rattle.cg_kinds.proofs.body_slab.BodySlabKind.reserve.Goals as goal

pub index_mut-requires : goal.index_mut-requires
index_mut-requires g c = holds-key g.C.Contents.body _ _ c.requires

pub returns-clause-ok : goal.returns-clause-ok
returns-clause-ok g c =
    on_ok_weaker c.reserve.result (with_spare g.C.Contents.body _ _ _ c.index_mut.ensures.value c.reserve.new.self) c.reserve.ensures.ok

pub returns-clause-room : goal.returns-clause-room
returns-clause-room g c is =
    of_places g.C.Contents.body _ _ _ c.index_mut.ensures.value (λ old new. OnOk c.reserve.result (c.args.n ≤ new.spare)) c.reserve.new.self (c.reserve.ensures.room is)

pub returns-clause-no_less : goal.returns-clause-no_less
returns-clause-no_less g c =
    of_places g.C.Contents.body _ _ _ c.index_mut.ensures.value (λ old new. OnOk c.reserve.result (old.spare ≤ new.spare)) c.reserve.new.self c.reserve.ensures.no_less

pub returns-clause-err : goal.returns-clause-err
returns-clause-err g c = on_err_weaker c.reserve.result (kept g.C.Contents.body _ _ _ c.index_mut.ensures.value c.reserve.new.self) c.reserve.ensures.err
