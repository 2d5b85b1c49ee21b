use Rattle.std.proofs.Common.{◌≡◌, ◌<◌, ◌-◌, [], ◌∷◌, ◌++◌}
use Rattle.cg_value.specs.declared.KindCode.TheVariants as code
use Rattle.cg_graph.specs.Value.{item}
use Rattle.cg_kind.specs.Bodies.{body_of}
use Rattle.cg_kinds.proofs.PlaceLemmas.{holds-key, of_value, rewritten, kept}
use Rattle.cg_kinds.proofs.body_slab.BodySlabKind.append_reserved.Goals as goal

pub index_mut-requires : goal.index_mut-requires
index_mut-requires g c = holds-key g.C.Contents.body _ _ c.requires.held

pub append_reserved-requires : goal.append_reserved-requires
append_reserved-requires g c =
    of_value g.C.Contents.body _ _ _ c.index_mut.ensures.value (λ b. g.C.Contents.kind ≡ code.List → 0 < b.spare) c.requires.room

pub returns-clause-appends : goal.returns-clause-appends
returns-clause-appends g c is =
    rewritten g.C.Contents.body _ _ _ c.index_mut.ensures.value (λ b. body_of (b.entries ++ item c.args.val ∷ []) (b.spare - 1))
    c.append_reserved.new.self (c.append_reserved.ensures.appends is)

pub returns-clause-others : goal.returns-clause-others
returns-clause-others g c is =
    kept g.C.Contents.body _ _ _ c.index_mut.ensures.value c.append_reserved.new.self (c.append_reserved.ensures.others is)
