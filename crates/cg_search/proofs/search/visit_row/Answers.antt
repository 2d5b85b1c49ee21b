use Rattle.cg_search.proofs.Places.{includes_next}
use Rattle.cg_search.proofs.Visited.{visits_next}
use Rattle.cg_search.proofs.search.visit_row.Goals as goal

pub visit-requires-clause-within : goal.visit-requires-clause-within
visit-requires-clause-within c = c.requires.within _ (includes_next c.args.row.now c.targets.target-index 0 c.targets-test.true)

pub targets-preserved : goal.targets-preserved
targets-preserved c =
    visits_next c.args.allowed.now c.args.row.now c.targets.target-index 0 c.args.marks.now.items c.targets.marks.items c.visit.new.marks.items
    c.args.waits.now.items c.targets.waits.items c.visit.new.waits.items c.targets-test.true c.targets.invariant c.in_ok-visit.ensures
