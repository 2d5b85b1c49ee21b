use Rattle.std.proofs.Common.{Some}
use Rattle.cg_search.proofs.Places.{includes_next}
use Rattle.cg_search.proofs.Walking.{finds_next}
use Rattle.cg_search.proofs.walk.find_row.Goals as goal

pub find-requires-clause-within : goal.find-requires-clause-within
find-requires-clause-within c = c.requires.within _ (includes_next c.args.row.now c.targets.target-index 0 c.targets-test.true)

pub targets-preserved : goal.targets-preserved
targets-preserved c = record {
  agree = c.in_ok-find.ensures.agree;
  finds = finds_next c.args.allowed.now c.args.found.now.items c.targets.found.items c.find.new.found.items c.args.row.now c.targets.target-index
      (Some c.args.holder) c.targets-test.true c.targets.invariant.finds c.in_ok-find.ensures.finds;
}
