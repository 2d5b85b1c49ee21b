use Rattle.std.proofs.Common.{take}
use Rattle.cg_ask.proofs.Asking.{HasWritten}
use Rattle.cg_ask.proofs.run.write_answers.Given as goal

abbrev pub invariant-questions : goal.invariant-questions
invariant-questions g l = HasWritten l.members (take l.question-index l.questions) (g.K.Sink.written l.fn.sink) (g.K.Sink.written l.sink) (g.K.Sink.faults l.fn.sink) (g.K.Sink.faults l.sink)
