use Rattle.cg_cert.proofs.NamesAndPositions.{if_none, if_some}
use Rattle.cg_cert.proofs.Verdicts.{fault_more, right_so_far_more}
use Rattle.cg_cert.proofs.check.judge.Goals as goal

pub returns-in-Some : goal.returns-in-Some
returns-in-Some c =
    fault_more c.args.records.now c.records.rec-index c.rec-item.result c.records.graphs c.in-Some.fault.position c.in-Some.fault.code c.records-test.true
    c.rec-item.is c.records.invariant.count c.records.invariant.right (if_some _ _ _ c.in-Some.is c.in_ok-fault.ensures.fault)

pub records-preserved : goal.records-preserved
records-preserved c =
    right_so_far_more c.args.records.now c.records.rec-index c.rec-item.result c.records.graphs c.graphs_in-graphs.result c.records-test.true c.rec-item.is
    c.records.invariant (if_none _ _ c.in_default.is c.in_ok-fault.ensures.right) c.graphs_in-graphs.ensures.count c.graphs_in-graphs.ensures.few
