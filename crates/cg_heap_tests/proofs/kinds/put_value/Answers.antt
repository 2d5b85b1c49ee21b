use Rattle.cg_kind.proofs.BodyLemmas.{holds_after}
use Rattle.cg_heap_tests.proofs.kinds.put_value.Goals as goal

pub returns : goal.returns
returns g c = holds_after _ _ _ _ _ c.in_ok-replaced.ensures.ok
