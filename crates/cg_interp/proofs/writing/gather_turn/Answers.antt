use Rattle.std.proofs.Common.{subst}
use Rattle.std.specs.Prelude.{flat_map, ◌++◌}
use Rattle.std.proofs.lemmas.Result.{on_ok_weaker, on_err_weaker}
use Rattle.cg_io.specs.Causes.{AppendsFront}
use Rattle.cg_machine.specs.Lines.{line}
use Rattle.cg_graph.specs.Member.{Includes}
use Rattle.cg_graph.proofs.Members.{Includes-append_left, Includes-append_right}
use Rattle.cg_interp.proofs.GraphText.{given_err}
use Rattle.cg_interp.specs.Running.{Gathers, events_told}
use Rattle.cg_interp.proofs.LineByLine.{cut_early, cut_more, gathers_more}
use Rattle.cg_interp.proofs.writing.gather_turn.Goals as goal

pub write_events-requires : goal.write_events-requires
write_events-requires g c = λ event m. c.requires event (Includes-append_left c.args.waits.now.items (events_told c.args.answer.now) event (subst (λ es. Includes es event) c.as_slice.ensures.value m))

pub write_answer-requires : goal.write_answer-requires
write_answer-requires g c = λ event m. c.requires event (Includes-append_right c.args.waits.now.items (events_told c.args.answer.now) event m)

pub returns-in_err-write_events-clause-err : goal.returns-in_err-write_events-clause-err
returns-in_err-write_events-clause-err g c = given_err _ _ (cut_early c.args.names.now (g.K.Sink.written c.args.sink.now) (g.K.Sink.written c.write_events.new.sink) c.args.text.now.bytes c.args.waits.now.items (events_told c.args.answer.now)
    (subst (λ es. AppendsFront (g.K.Sink.written c.args.sink.now) (g.K.Sink.written c.write_events.new.sink) (c.args.text.now.bytes ++ flat_map (line c.args.names.now) es)) c.as_slice.ensures.value c.in_err-write_events.ensures.err))

pub returns-clause-ok : goal.returns-clause-ok
returns-clause-ok g c =
    let waits = subst (λ es. Gathers (g.K.Sink.written c.args.sink.now) (g.K.Sink.written c.write_events.new.sink) c.args.text.now.bytes c.write_events.new.text.bytes (flat_map (line c.args.names.now) es)) c.as_slice.ensures.value c.in_ok-write_events.ensures.ok in
    on_ok_weaker _ (gathers_more c.args.names.now _ _ _ c.args.waits.now.items (events_told c.args.answer.now) _ waits _ _) c.write_answer.ensures.ok

pub returns-clause-err : goal.returns-clause-err
returns-clause-err g c =
    let waits = subst (λ es. Gathers (g.K.Sink.written c.args.sink.now) (g.K.Sink.written c.write_events.new.sink) c.args.text.now.bytes c.write_events.new.text.bytes (flat_map (line c.args.names.now) es)) c.as_slice.ensures.value c.in_ok-write_events.ensures.ok in
    on_err_weaker _ (cut_more c.args.names.now _ _ _ c.args.waits.now.items (events_told c.args.answer.now) _ waits _) c.write_answer.ensures.err
