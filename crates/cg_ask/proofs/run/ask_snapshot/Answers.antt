use Rattle.cg_ask.proofs.Asking.{kept_here, fault_told, fault_cut, snapshot_told, snapshot_cut}
use Rattle.cg_ask.proofs.run.ask_snapshot.Goals as goal

pub returns-in_default-clause-cut : goal.returns-in_default-clause-cut
returns-in_default-clause-cut g c = λ e. kept_here c.args.snapshot.now (g.K.Sink.written c.args.sink.now)

pub returns-in-Some-clause-told : goal.returns-in-Some-clause-told
returns-in-Some-clause-told g c =
    let first = rw (c.as_slice-members.ensures, c.asks_words.ensures, c.as_slice-questions.ensures) at c.in-Some.ensures.fault in
    fault_told c.args.snapshot.now (g.K.Sink.written c.args.sink.now) (g.K.Sink.written c.tell_fault.new.sink) c.tell_fault.result c.in-Some.fault.code
    c.in-Some.fault.member first c.tell_fault.ensures.told c.tell_fault.ensures.only

pub returns-in-Some-clause-cut : goal.returns-in-Some-clause-cut
returns-in-Some-clause-cut g c =
    let first = rw (c.as_slice-members.ensures, c.asks_words.ensures, c.as_slice-questions.ensures) at c.in-Some.ensures.fault in
    fault_cut c.args.snapshot.now (g.K.Sink.written c.args.sink.now) (g.K.Sink.written c.tell_fault.new.sink) c.tell_fault.result c.in-Some.fault.code
    c.in-Some.fault.member first c.tell_fault.ensures.write c.tell_fault.ensures.memory

pub write_answers-requires-clause-asked : goal.write_answers-requires-clause-asked
write_answers-requires-clause-asked g c = rw (c.as_slice-members.ensures, c.as_slice-questions.ensures) c.requires.writable.questions

pub returns-clause-told : goal.returns-clause-told
returns-clause-told g c =
    let right = rw (c.as_slice-members.ensures, c.asks_words.ensures, c.as_slice-questions.ensures) at c.in-None.ensures.right in
    let so = rw (c.as_slice-members.ensures, c.as_slice-questions.ensures) at c.write_answers.ensures in
    snapshot_told c.args.snapshot.now (g.K.Sink.written c.args.sink.now) (g.K.Sink.written c.write_answers.new.sink) (g.K.Sink.faults c.args.sink.now)
    (g.K.Sink.faults c.write_answers.new.sink) c.write_answers.result right so

pub returns-clause-cut : goal.returns-clause-cut
returns-clause-cut g c =
    let right = rw (c.as_slice-members.ensures, c.asks_words.ensures, c.as_slice-questions.ensures) at c.in-None.ensures.right in
    let so = rw (c.as_slice-members.ensures, c.as_slice-questions.ensures) at c.write_answers.ensures in
    snapshot_cut c.args.snapshot.now (g.K.Sink.written c.args.sink.now) (g.K.Sink.written c.write_answers.new.sink) (g.K.Sink.faults c.args.sink.now)
    (g.K.Sink.faults c.write_answers.new.sink) c.write_answers.result right so
