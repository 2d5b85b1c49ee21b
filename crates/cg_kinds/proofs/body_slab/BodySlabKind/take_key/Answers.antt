use Rattle.std.proofs.Common.{◌≡◌}
use Rattle.cg_graph.specs.Value.{entry_at as entry_under}
use Rattle.cg_kind.specs.Bodies.{body_of}
use Rattle.cg_kind.specs.Calls.{after_take_key, spare_after_leave}
use Rattle.cg_kinds.proofs.PlaceLemmas.{holds-key, of_place, rewritten, kept, on_some_weaker, if_none_weaker}
use Rattle.cg_kinds.proofs.body_slab.BodySlabKind.take_key.Goals as goal

pub index_mut-requires : goal.index_mut-requires
index_mut-requires g c = holds-key g.C.Contents.body _ _ c.requires

pub returns-clause-entry : goal.returns-clause-entry
returns-clause-entry g c =
    of_place g.C.Contents.body _ _ _ c.index_mut.ensures.value (λ b. c.take_key.result ≡ entry_under b.entries c.args.key) c.take_key.ensures.entry

pub returns-clause-rest : goal.returns-clause-rest
returns-clause-rest g c =
    on_some_weaker c.take_key.result
    (rewritten g.C.Contents.body _ _ _ c.index_mut.ensures.value (λ b. body_of (after_take_key g.C.Contents.kind b.entries c.args.key)
    (spare_after_leave g.C.Contents.kind b.spare)) c.take_key.new.self)
    c.take_key.ensures.rest

pub returns-clause-none : goal.returns-clause-none
returns-clause-none g c =
    if_none_weaker c.take_key.result (kept g.C.Contents.body _ _ _ c.index_mut.ensures.value c.take_key.new.self) c.take_key.ensures.none
