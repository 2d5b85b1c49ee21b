use Rattle.cg_kind.proofs.BodyLemmas.{holds_after, holds_new}
use Rattle.cg_heap_tests.proofs.kinds.make.Goals as goal

pub returns-clause-held : goal.returns-clause-held
returns-clause-held g c = holds_new _ _ _ _ _ c.in_ok-at.ensures.made

pub returns-clause-others : goal.returns-clause-others
returns-clause-others g c = holds_after _ _ _ _ _ c.in_ok-at.ensures.made
