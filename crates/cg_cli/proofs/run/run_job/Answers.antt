use Rattle.std.proofs.Common.{ap, inl, inr, subst, Err}
use Rattle.cg_cli.specs.Jobs.{RunAnswers, outside}
use Rattle.cg_cli.proofs.AnswersOfJobs.{run_answers, run_unread}
use Rattle.cg_cli.proofs.run.run_job.Goals as goal

pub returns-in-Ok : goal.returns-in-Ok
returns-in-Ok g c =
    subst (λ snk. RunAnswers c.args.given c.run_in_hand.result
    (outside (g.S.Source.left c.args.source.now) (g.S.Source.faults c.args.source.now) (g.K.Sink.written snk) (g.K.Sink.faults snk))
    (outside (g.S.Source.left c.read_whole.new.source) (g.S.Source.faults c.read_whole.new.source) (g.K.Sink.written c.run_in_hand.new.sink)
    (g.K.Sink.faults c.run_in_hand.new.sink))) c.in-Ok.ensures.nothing
    (run_answers c.run_in_hand.result
    (outside (g.S.Source.left c.args.source.now) (g.S.Source.faults c.args.source.now) (g.K.Sink.written c.read_whole.new.sink) (g.K.Sink.faults c.read_whole.new.sink))
    (outside (g.S.Source.left c.read_whole.new.source) (g.S.Source.faults c.read_whole.new.source) (g.K.Sink.written c.run_in_hand.new.sink) (g.K.Sink.faults c.run_in_hand.new.sink))
    c.in-Ok.bytes.items c.in-Ok.ensures.all c.in-Ok.ensures.few c.in-Ok.ensures.end c.args.given c.one_finalizer_each.ensures c.no_dead_lines.ensures
    c.run_in_hand.ensures.done c.run_in_hand.ensures.spent c.run_in_hand.ensures.bad_script c.run_in_hand.ensures.write c.run_in_hand.ensures.cause
    c.run_in_hand.ensures.memory c.run_in_hand.ensures.only)

pub returns-in-Err : goal.returns-in-Err
returns-in-Err g c =
    let f = c.in-Err.ensures in
    run_unread c.in-Err.status
    (outside (g.S.Source.left c.args.source.now) (g.S.Source.faults c.args.source.now) (g.K.Sink.written c.args.sink.now) (g.K.Sink.faults c.args.sink.now))
    (outside (g.S.Source.left c.read_whole.new.source) (g.S.Source.faults c.read_whole.new.source) (g.K.Sink.written c.read_whole.new.sink) (g.K.Sink.faults c.read_whole.new.sink))
    f.only (λ e. f.too_large (ap Err e)) (λ e. f.taken (ap Err e)) (λ e. f.read_cause (ap Err e)) (λ e. f.read (ap Err e)) (λ e. f.write_cause (ap Err e))
    (λ e. f.write (ap Err e)) (λ e. f.memory (ap Err e))
    (λ e. elim e [
      | inl is ↦ f.many (inl (ap Err is))
      | inr is ↦ f.many (inr (ap Err is))
    ]) c.args.given c.one_finalizer_each.ensures c.no_dead_lines.ensures
