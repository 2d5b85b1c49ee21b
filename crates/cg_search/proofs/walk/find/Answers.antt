use Rattle.cg_search.proofs.Walking.{found_new, found_before, found_shut}
use Rattle.cg_search.proofs.walk.find.Goals as goal
use Rattle.cg_search.proofs.walk.find.Goals.{else-allowed-target-via-then-allowed-target+else-not-index, else-allowed-target-via-else-allowed-target}

pub returns-in_ok-push-clause-agree : goal.returns-in_ok-push-clause-agree
returns-in_ok-push-clause-agree c =
    (found_new c.args.allowed.now c.args.marks.now.items c.args.found.now.items c.push.new.self.items c.args.target c.args.holder c.index.result.now
    c.requires.agree c.requires.within c.if-allowed-target.true c.index.ensures c.if-not-index.true c.in_ok-push.ensures.items).agree

pub returns-in_ok-push-clause-finds : goal.returns-in_ok-push-clause-finds
returns-in_ok-push-clause-finds c =
    (found_new c.args.allowed.now c.args.marks.now.items c.args.found.now.items c.push.new.self.items c.args.target c.args.holder c.index.result.now
    c.requires.agree c.requires.within c.if-allowed-target.true c.index.ensures c.if-not-index.true c.in_ok-push.ensures.items).finds

pub returns-else-allowed-target-clause-finds : goal.returns-else-allowed-target-clause-finds
returns-else-allowed-target-clause-finds c = elim c.else-allowed-target.branch [
  | else-allowed-target-via-then-allowed-target+else-not-index w ↦ (found_before c.args.allowed.now c.args.marks.now.items c.args.found.now.items c.args.target
      c.args.holder w.index.result.now c.requires.agree c.requires.within w.if-allowed-target.true w.index.ensures w.if-not-index.false).finds
  | else-allowed-target-via-else-allowed-target w ↦ (found_shut c.args.allowed.now c.args.marks.now.items c.args.found.now.items c.args.target c.args.holder
      c.requires.agree w.if-allowed-target.false).finds
]
