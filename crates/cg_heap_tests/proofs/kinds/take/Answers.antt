use Rattle.cg_kind.proofs.BodyLemmas.{holds_after}
use Rattle.cg_heap_tests.proofs.kinds.take.Goals as goal

pub returns : goal.returns
returns g c = holds_after _ _ _ _ _ c.take.ensures.rest
