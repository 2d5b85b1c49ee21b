use Rattle.cg_kind.proofs.BodyLemmas.{holds_after}
use Rattle.cg_heap_tests.proofs.kinds.detach.Goals as goal

pub returns-in-Some : goal.returns-in-Some
returns-in-Some g c = holds_after _ _ _ _ _ c.in-Some.ensures.rest
