use Rattle.std.proofs.Common.{[], ◌∷◌, ◌++◌}
use Rattle.std.proofs.lemmas.Result.{on_ok_weaker, on_err_weaker}
use Rattle.cg_graph.specs.Value.{item}
use Rattle.cg_kinds.proofs.PlaceLemmas.{holds-key, with_entries, kept}
use Rattle.cg_kinds.proofs.body_slab.BodySlabKind.append.Goals as goal

pub index_mut-requires : goal.index_mut-requires
index_mut-requires g c = holds-key g.C.Contents.body _ _ c.requires.held

pub returns-clause-ok : goal.returns-clause-ok
returns-clause-ok g c =
    on_ok_weaker c.append.result (with_entries g.C.Contents.body _ _ _ c.index_mut.ensures.value (λ es. es ++ item c.args.val ∷ []) c.append.new.self) (c.append.ensures.appends c.requires.list)

pub returns-clause-err : goal.returns-clause-err
returns-clause-err g c = on_err_weaker c.append.result (kept g.C.Contents.body _ _ _ c.index_mut.ensures.value c.append.new.self) c.append.ensures.err
