use Rattle.cg_search.proofs.Walking.{starts_more, starts_skip, starts_all}
use Rattle.cg_search.proofs.walk.find_starts.Goals as goal
use Rattle.cg_search.proofs.walk.find_starts.Goals.{then-starts-at+in_ok-find, else-starts-at}

pub starts-preserved : goal.starts-preserved
starts-preserved c = elim c.if-starts-at.branch [
  | then-starts-at+in_ok-find w ↦ rw (w.marks-is, w.found-is) (record {
    agree = w.in_ok-find.ensures.agree;
    starts = starts_more c.args.starts.now c.args.allowed.now c.starts.at c.starts.found.items w.find.new.found.items w.if-starts-at.true c.starts.invariant.starts w.in_ok-find.ensures.finds;
  })
  | else-starts-at w ↦ rw (w.marks-is, w.found-is) (record {
    agree = c.starts.invariant.agree;
    starts = starts_skip c.args.starts.now c.args.allowed.now c.starts.at c.starts.found.items w.if-starts-at.false c.starts.invariant.starts;
  })
]

pub returns-clause-starts : goal.returns-clause-starts
returns-clause-starts c = starts_all c.args.starts.now c.args.allowed.now c.starts.at c.starts.found.items c.starts-test.false c.starts.invariant.starts
