use Rattle.std.proofs.Common.{◌≡◌, ◌↔◌, [], ◌∷◌, ◌++◌}
use Rattle.std.specs.Prelude.{IfSome, IsNone}
use Rattle.cg_graph.specs.Value.{without_last}
use Rattle.cg_kind.specs.Bodies.{body_of}
use Rattle.cg_kind.specs.Calls.{spare_after_leave}
use Rattle.cg_kinds.proofs.PlaceLemmas.{holds-key, of_place, rewritten, kept, on_some_weaker, if_none_weaker}
use Rattle.cg_kinds.proofs.body_slab.BodySlabKind.detach.Goals as goal

pub index_mut-requires : goal.index_mut-requires
index_mut-requires g c = holds-key g.C.Contents.body _ _ c.requires

pub returns-clause-last : goal.returns-clause-last
returns-clause-last g c =
    of_place g.C.Contents.body _ _ _ c.index_mut.ensures.value (λ b. IfSome c.detach.result (λ e. b.entries ≡ without_last b.entries ++ e ∷ [])) c.detach.ensures.last

pub returns-clause-rest : goal.returns-clause-rest
returns-clause-rest g c =
    on_some_weaker c.detach.result
    (rewritten g.C.Contents.body _ _ _ c.index_mut.ensures.value (λ b. body_of (without_last b.entries) (spare_after_leave g.C.Contents.kind b.spare)) c.detach.new.self)
    c.detach.ensures.rest

pub returns-clause-empty : goal.returns-clause-empty
returns-clause-empty g c =
    of_place g.C.Contents.body _ _ _ c.index_mut.ensures.value (λ b. IsNone c.detach.result ↔ (b.entries ≡ [])) c.detach.ensures.empty

pub returns-clause-none : goal.returns-clause-none
returns-clause-none g c =
    if_none_weaker c.detach.result (kept g.C.Contents.body _ _ _ c.index_mut.ensures.value c.detach.new.self) c.detach.ensures.none
