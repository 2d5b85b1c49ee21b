use Rattle.cg_search.proofs.Visited.{reads_new, reads_marked, reads_shut}
use Rattle.cg_search.proofs.search.visit.Goals as goal
use Rattle.cg_search.proofs.search.visit.Goals.{else-allowed-target-via-then-allowed-target+else-not-index, else-allowed-target-via-else-allowed-target}

pub returns-in_ok-push : goal.returns-in_ok-push
returns-in_ok-push c =
    reads_new c.args.allowed.now c.args.marks.now.items c.args.waits.now.items c.push.new.self.items c.args.target c.index.result.now c.requires.within
    c.requires.long c.if-allowed-target.true c.index.ensures c.if-not-index.true c.in_ok-push.ensures.items

pub returns-else-allowed-target : goal.returns-else-allowed-target
returns-else-allowed-target c = elim c.else-allowed-target.branch [
  | else-allowed-target-via-then-allowed-target+else-not-index w ↦ reads_marked c.args.allowed.now c.args.marks.now.items c.args.waits.now.items c.args.target
      w.index.result.now c.requires.within c.requires.long w.index.ensures w.if-not-index.false
  | else-allowed-target-via-else-allowed-target w ↦ reads_shut c.args.allowed.now c.args.marks.now.items c.args.waits.now.items c.args.target c.requires.within w.if-allowed-target.false
]
