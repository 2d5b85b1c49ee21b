use Rattle.std.proofs.Common.{subst, List}
use Rattle.std.proofs.lemmas.Result.{IfOk-weaker}
use Rattle.cg_records.specs.declared.graph.Rec.{Rec}
use Rattle.cg_cert.specs.Judged.{unreadable}
use Rattle.cg_cert.specs.Positions.{JudgesRecords}
use Rattle.cg_cert.proofs.NamesAndPositions.{if_none, if_some}
use Rattle.cg_cert.proofs.Verdicts.{judged}
use Rattle.cg_cert.proofs.check.check_records.Goals as goal

pub returns-in-Some : goal.returns-in-Some
returns-in-Some c =
    let read = if_some _ _ _ c.in-Some.is c.in_ok-records.ensures.found in
    IfOk-weaker c.judge.result _ _
    (λ v h. judged c.args.bytes.now c.in-Some.records v (record { spells = read.0; small = read.1 }) (subst (λ (rs : List Rec). JudgesRecords rs v) c.as_slice.ensures h))
    c.judge.ensures

pub returns-in-None : goal.returns-in-None
returns-in-None c = unreadable (if_none _ _ c.in-None.is c.in_ok-records.ensures.none)
