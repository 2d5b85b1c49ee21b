use Rattle.cg_weak.proofs.CallerLemmas.{each_refers, walk_goes_on}
use Rattle.cg_weak.proofs.laws.a_walk_meets_each_newest_first.Goals as goal

pub returns-clause-may_ask : goal.returns-clause-may_ask
returns-clause-may_ask c = λ rows object weak newer older rise is. each_refers rows object weak newer older rise is

pub returns-clause-goes_on : goal.returns-clause-goes_on
returns-clause-goes_on c = λ rows object weak newer older rise is. walk_goes_on rows object weak newer older rise is
