use Rattle.std.proofs.Common.{inl, inr, arith}
use Rattle.cg_cert.specs.Statuses.{verdict_row, large_row}
use Rattle.cg_cert.proofs.CheckFacts.{answers_of}
use Rattle.cg_cert.proofs.run.check_read.Goals as goal

pub returns-then-bytes-ge-LIMIT-clause-write : goal.returns-then-bytes-ge-LIMIT-clause-write
returns-then-bytes-ge-LIMIT-clause-write g c = λ e. record { text = _; row = large_row c.if-bytes-ge-LIMIT.true; wrote = c.tell_large.ensures.write e }

pub returns-in-Ok-clause-write : goal.returns-in-Ok-clause-write
returns-in-Ok-clause-write g c = λ e. record { text = _; row = verdict_row c.in-Ok.verdict (omega (arith, c.if-bytes-ge-LIMIT.false)) c.in-Ok.ensures; wrote = c.tell_verdict.ensures.write e }

pub returns-in-Ok-clause-only : goal.returns-in-Ok-clause-only
returns-in-Ok-clause-only g c = elim c.tell_verdict.ensures.only [
  | inl is ↦ inl (answers_of c.args.bytes.now c.tell_verdict.result c.in-Ok.verdict (omega (arith, c.if-bytes-ge-LIMIT.false)) c.in-Ok.ensures is)
  | inr fault ↦ inr (inl fault)
]
