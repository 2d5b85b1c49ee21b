use Rattle.cg_ask.proofs.Asking.{told_outcome, told_front, answer_comes, front_anyway}
use Rattle.cg_ask.proofs.run.ask_source.Goals as goal

pub returns-in-Ok-clause-told : goal.returns-in-Ok-clause-told
returns-in-Ok-clause-told g c =
    λ e. told_outcome (g.S.Source.left c.args.source.now) (g.S.Source.left c.read_up_to.new.source) c.in-Ok.bytes.items c.in-Ok.ensures.bytes
    c.in-Ok.ensures.end c.ask_bytes.result (g.K.Sink.written c.args.sink.now) (g.K.Sink.written c.ask_bytes.new.sink) (c.ask_bytes.ensures.told e)

pub returns-in-Ok-clause-cut : goal.returns-in-Ok-clause-cut
returns-in-Ok-clause-cut g c =
    λ e. told_front (g.S.Source.left c.args.source.now) (g.S.Source.left c.read_up_to.new.source) c.in-Ok.bytes.items c.in-Ok.ensures.bytes c.in-Ok.ensures.end
    (g.K.Sink.written c.args.sink.now) (g.K.Sink.written c.ask_bytes.new.sink) (c.ask_bytes.ensures.cut e)

pub returns-in-Ok-clause-answers : goal.returns-in-Ok-clause-answers
returns-in-Ok-clause-answers g c =
    answer_comes (g.S.Source.left c.args.source.now) (g.S.Source.left c.read_up_to.new.source) c.in-Ok.bytes.items c.in-Ok.ensures.bytes c.in-Ok.ensures.end
    (g.K.Sink.written c.args.sink.now) (g.K.Sink.written c.ask_bytes.new.sink) c.ask_bytes.result c.ask_bytes.ensures.told c.ask_bytes.ensures.only

pub returns-in-Err-OutOfMemory-clause-cut : goal.returns-in-Err-OutOfMemory-clause-cut
returns-in-Err-OutOfMemory-clause-cut g c =
    λ e. front_anyway (g.S.Source.left c.args.source.now) (g.K.Sink.written c.args.sink.now)
