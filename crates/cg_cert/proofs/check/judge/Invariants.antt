use Rattle.std.proofs.Common.{take}
use Rattle.cg_cert.proofs.Verdicts.{RightSoFar}
use Rattle.cg_cert.proofs.check.judge.Given as goal

abbrev pub invariant-records : goal.invariant-records
invariant-records l = RightSoFar (take l.rec-index l.records) l.rec-index l.graphs
