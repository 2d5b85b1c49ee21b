use Rattle.cg_ask.specs.Faults.{HasFault}
use Rattle.cg_ask.proofs.FaultsOfHeaps.{right_more, right_all}
use Rattle.cg_ask.proofs.faults.find_fault.Goals as goal
use Rattle.cg_snapshot.proofs.DistinctRows.{if_some, if_none}

pub members-preserved : goal.members-preserved
members-preserved c = right_more c.args.members.now c.args.with_words c.members.at c.members.invariant (if_none _ _ c.in_default.is c.fault_at.ensures.right)

pub returns-in-Some-clause-fault : goal.returns-in-Some-clause-fault
returns-in-Some-clause-fault c = record {
  within = c.members-test.true;
  before = c.members.invariant;
  fault = if_some _ _ (λ code. HasFault c.args.members.now c.args.with_words c.members.at code) c.in-Some.is c.fault_at.ensures.fault;
}

pub returns-clause-right : goal.returns-clause-right
returns-clause-right c = right_all c.args.members.now c.args.with_words c.members.at c.members-test.false c.members.invariant
