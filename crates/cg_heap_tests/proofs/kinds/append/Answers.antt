use Rattle.cg_kind.proofs.BodyLemmas.{holds_after}
use Rattle.cg_heap_tests.proofs.Appends.{holds_after_append}
use Rattle.cg_heap_tests.proofs.kinds.append.Goals as goal

pub append_reserved-requires-clause-held : goal.append_reserved-requires-clause-held
append_reserved-requires-clause-held g c = holds_after _ _ _ _ _ c.in_ok-reserve.ensures.ok c.args.at c.requires

pub returns : goal.returns
returns g c place held =
    holds_after_append (g.K.Kind.kind c.reserve.new.self) _ _ _ _ _ c.append_reserved.ensures.appends c.append_reserved.ensures.others place
    (holds_after _ _ _ _ _ c.in_ok-reserve.ensures.ok place held)
