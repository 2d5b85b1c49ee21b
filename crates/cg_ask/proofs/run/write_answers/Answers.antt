use Rattle.std.proofs.Common.{subst, List, ℕ, arith}
use Rattle.std.specs.Io.KnownBytes.{Appends}
use Rattle.cg_io.specs.Causes.{AppendsFront}
use Rattle.cg_ask.proofs.Asking.{whole_text, wrote_all, wrote_next, written_first, rose_later, so_memory, so_write, so_answered}
use Rattle.cg_ask.proofs.run.write_answers.Goals as goal

pub returns-in_default-put_answer : goal.returns-in_default-put_answer
returns-in_default-put_answer g c = so_memory c.args.members.now c.args.questions.now (g.K.Sink.written c.args.sink.now) (g.K.Sink.faults c.args.sink.now)
    c.questions.question-index (g.K.Sink.written c.questions.sink) (g.K.Sink.faults c.questions.sink) c.questions.invariant.answers

pub returns-in_default-write : goal.returns-in_default-write
returns-in_default-write g c =
    let whole = whole_text c.args.members.now c.question-item.result c.new-text.result.items c.put_answer.new.out.items c.new-text.ensures.items c.in-Ok-put_answer.ensures in
    let part = subst (λ (bs : List ℕ). AppendsFront (g.K.Sink.written c.questions.sink) (g.K.Sink.written c.write.new.self) bs) c.deref-in-questions.ensures.value c.in_default-write.ensures.err in
    so_write c.args.members.now c.args.questions.now (g.K.Sink.written c.args.sink.now) (g.K.Sink.faults c.args.sink.now) c.questions.question-index
    c.question-item.result (g.K.Sink.written c.questions.sink) (g.K.Sink.written c.write.new.self) (g.K.Sink.faults c.write.new.self)
    c.put_answer.new.out.items
    c.questions-test.true c.question-item.is c.questions.invariant.answers whole part
    (rose_later (g.K.Sink.faults c.args.sink.now) (g.K.Sink.faults c.questions.sink) (g.K.Sink.faults c.write.new.self) c.questions.invariant.not_less c.in_default-write.ensures.cause.failed)

pub questions-preserved : goal.questions-preserved
questions-preserved g c =
    let whole = whole_text c.args.members.now c.question-item.result c.new-text.result.items c.put_answer.new.out.items c.new-text.ensures.items c.in-Ok-put_answer.ensures in
    let more = subst (λ (bs : List ℕ). Appends (g.K.Sink.written c.questions.sink) (g.K.Sink.written c.write.new.self) bs) c.deref-in-questions.ensures.value c.in-Ok-write.ensures.ok in
    let next = wrote_next c.args.members.now c.args.questions.now c.questions.question-index c.question-item.result (g.K.Sink.written c.args.sink.now)
    (g.K.Sink.written c.questions.sink) (g.K.Sink.written c.write.new.self) c.put_answer.new.out.items c.questions-test.true c.question-item.is
    c.questions.invariant.answers whole more in
    record { answers = next; not_less = omega (arith, c.questions.invariant.not_less, c.in-Ok-write.ensures.cause.later) }

pub questions-init : goal.questions-init
questions-init g c = written_first c.args.members.now c.args.questions.now (g.K.Sink.written c.args.sink.now) (g.K.Sink.faults c.args.sink.now)

pub returns : goal.returns
returns g c =
    so_answered c.args.members.now c.args.questions.now (g.K.Sink.written c.args.sink.now) (g.K.Sink.faults c.args.sink.now) (g.K.Sink.written c.questions.sink) (g.K.Sink.faults c.questions.sink)
    (wrote_all c.args.members.now c.args.questions.now c.questions.question-index (g.K.Sink.written c.args.sink.now) (g.K.Sink.written c.questions.sink)
    c.questions-test.false c.questions.invariant.answers)
