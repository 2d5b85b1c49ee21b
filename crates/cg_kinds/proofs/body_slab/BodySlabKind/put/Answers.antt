use Rattle.std.proofs.Common.{◌≡◌, IsSome}
use Rattle.std.specs.Prelude.{IfOk}
use Rattle.std.proofs.lemmas.Result.{on_ok_weaker, on_err_weaker}
use Rattle.cg_kind.specs.Bodies.{body_of}
use Rattle.cg_kind.specs.Calls.{CanPut, value_under, after_put}
use Rattle.cg_kinds.proofs.PlaceLemmas.{holds-key, of_value, of_place, rewritten, kept}
use Rattle.cg_kinds.proofs.body_slab.BodySlabKind.put.Goals as goal

pub index_mut-requires : goal.index_mut-requires
index_mut-requires g c = holds-key g.C.Contents.body _ _ c.requires.held

pub put-requires : goal.put-requires
put-requires g c = of_value g.C.Contents.body _ _ _ c.index_mut.ensures.value (λ b. CanPut g.C.Contents.kind b.entries c.args.key) c.requires.can

pub returns-clause-ok : goal.returns-clause-ok
returns-clause-ok g c =
    on_ok_weaker c.put.result
    (rewritten g.C.Contents.body _ _ _ c.index_mut.ensures.value (λ b. body_of (after_put g.C.Contents.kind b.entries c.args.key c.args.val) b.spare) c.put.new.self)
    c.put.ensures.ok

pub returns-clause-replaced : goal.returns-clause-replaced
returns-clause-replaced g c =
    of_place g.C.Contents.body _ _ _ c.index_mut.ensures.value (λ b. IfOk c.put.result (λ was. was ≡ value_under g.C.Contents.kind b.entries c.args.key)) c.put.ensures.replaced

pub returns-clause-present : goal.returns-clause-present
returns-clause-present g c some =
    c.put.ensures.present
    (of_value g.C.Contents.body _ _ _ c.index_mut.ensures.value (λ b. IsSome (value_under g.C.Contents.kind b.entries c.args.key)) some)

pub returns-clause-err : goal.returns-clause-err
returns-clause-err g c = on_err_weaker c.put.result (kept g.C.Contents.body _ _ _ c.index_mut.ensures.value c.put.new.self) c.put.ensures.err
