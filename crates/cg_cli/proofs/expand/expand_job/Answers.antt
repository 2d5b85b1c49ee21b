use Rattle.std.proofs.Common.{◌≡◌, ◌<◌, ℕ, List, length, IfSome, ap, inl, inr, subst, sym, Err}
use Rattle.cg_cli.specs.declared.input.TheConstants.{LIMIT}
use Rattle.cg_cli.specs.Jobs.{ExpandAnswers, outside}
use Rattle.cg_cli.proofs.AnswersOfJobs.{expand_answers, expand_unread}
use Rattle.cg_cli.proofs.expand.expand_job.Goals as goal

pub returns-in-Ok : goal.returns-in-Ok
returns-in-Ok g c =
    subst (λ snk. ExpandAnswers c.expand_in_hand.result
    (outside (g.S.Source.left c.args.source.now) (g.S.Source.faults c.args.source.now) (g.K.Sink.written snk) (g.K.Sink.faults snk))
    (outside (g.S.Source.left c.read_whole.new.source) (g.S.Source.faults c.read_whole.new.source) (g.K.Sink.written c.expand_in_hand.new.sink)
    (g.K.Sink.faults c.expand_in_hand.new.sink))) c.in-Ok.ensures.nothing
    (expand_answers c.expand_in_hand.result
    (outside (g.S.Source.left c.args.source.now) (g.S.Source.faults c.args.source.now) (g.K.Sink.written c.read_whole.new.sink) (g.K.Sink.faults c.read_whole.new.sink))
    (outside (g.S.Source.left c.read_whole.new.source) (g.S.Source.faults c.read_whole.new.source) (g.K.Sink.written c.expand_in_hand.new.sink) (g.K.Sink.faults c.expand_in_hand.new.sink))
    c.as_slice.result.now (subst (λ (bs : List ℕ). IfSome (g.S.Source.left c.args.source.now) (λ t. t ≡ bs)) (sym c.as_slice.ensures.value) c.in-Ok.ensures.all)
    (subst (λ (bs : List ℕ). length bs < LIMIT) (sym c.as_slice.ensures.value) c.in-Ok.ensures.few) c.in-Ok.ensures.end
    c.expand_in_hand.ensures.done c.expand_in_hand.ensures.bad_script c.expand_in_hand.ensures.write c.expand_in_hand.ensures.cause c.expand_in_hand.ensures.memory c.expand_in_hand.ensures.only)

pub returns-in-Err : goal.returns-in-Err
returns-in-Err g c =
    let f = c.in-Err.ensures in
    expand_unread c.in-Err.status
    (outside (g.S.Source.left c.args.source.now) (g.S.Source.faults c.args.source.now) (g.K.Sink.written c.args.sink.now) (g.K.Sink.faults c.args.sink.now))
    (outside (g.S.Source.left c.read_whole.new.source) (g.S.Source.faults c.read_whole.new.source) (g.K.Sink.written c.read_whole.new.sink) (g.K.Sink.faults c.read_whole.new.sink))
    f.only (λ e. f.too_large (ap Err e)) (λ e. f.taken (ap Err e)) (λ e. f.read_cause (ap Err e)) (λ e. f.read (ap Err e)) (λ e. f.write_cause (ap Err e))
    (λ e. f.write (ap Err e)) (λ e. f.memory (ap Err e))
    (λ e. elim e [
      | inl is ↦ f.many (inl (ap Err is))
      | inr is ↦ f.many (inr (ap Err is))
    ])
