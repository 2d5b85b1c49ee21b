use Rattle.cg_cert.proofs.NamesAndPositions.{if_none, if_some}
use Rattle.cg_cert.proofs.Verdicts.{fault_first, fault_second}
use Rattle.cg_cert.proofs.check.fault_in.Goals as goal

pub returns-in-Some-clause-fault : goal.returns-in-Some-clause-fault
returns-in-Some-clause-fault c = fault_first c.args.rec.now c.in-Some.code (if_some _ _ _ c.in-Some.is c.in_ok-code.ensures.fault)

pub returns-in-Some-2-clause-fault : goal.returns-in-Some-2-clause-fault
returns-in-Some-2-clause-fault c =
    fault_second c.args.rec.now c.in-Some-second.second c.in-Some-2.code c.in-Some-second.is (if_none _ _ c.in_default.is c.in_ok-code.ensures.right)
    (if_some _ _ _ c.in-Some-2.is c.in_ok-code-2.ensures.fault)
