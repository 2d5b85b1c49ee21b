use Rattle.std.proofs.Common.{sym, ◌∙◌, ap}
use Rattle.cg_interp.specs.Graphs.{taken}
use Rattle.cg_interp.proofs.GraphText.{given_err}
use Rattle.cg_interp.proofs.RecordingLemmas.{records_turn, cuts_all, told_none, told_known}
use Rattle.cg_interp.proofs.recorded.turn_and_record.Goals as goal

pub returns-in_err-write_after-clause-err : goal.returns-in_err-write_after-clause-err
returns-in_err-write_after-clause-err g c =
    given_err _ _
    (cuts_all c.args.script.now c.args.engine.now c.args.unfinished.now _ _ _ _ _ (c.recorded_of-detection.ensures ∙ ap (taken c.args.unfinished.now)
    c.next_detection.ensures) c.turn-answer.new.waiting.items c.turn-answer.result c.turn-answer.ensures.turns
    c.in_ok-write_before.ensures.ok c.in_err-write_after.ensures.err)

pub returns-then-wants_memory_in-clause-ok : goal.returns-then-wants_memory_in-clause-ok
returns-then-wants_memory_in-clause-ok g c = λ w left stands kept.
    records_turn c.args.script.now c.args.engine.now c.args.unfinished.now w left _ _ _ _ _ (c.recorded_of-detection.ensures ∙ ap (taken c.args.unfinished.now)
    c.next_detection.ensures) c.turn-answer.new.waiting.items c.turn-answer.result
    (c.turn-answer.ensures.turns w left stands kept) c.in_ok-write_before.ensures.ok _ _ (told_none _ _ (sym c.wants_memory_in.ensures ∙ c.if-wants_memory_in.true))
    c.is_unfinished_after.ensures c.in_ok-write_after.ensures.ok

pub returns-clause-ok : goal.returns-clause-ok
returns-clause-ok g c = λ w left stands kept.
    records_turn c.args.script.now c.args.engine.now c.args.unfinished.now w left _ _ _ _ _ (c.recorded_of-detection.ensures ∙ ap (taken c.args.unfinished.now)
    c.next_detection.ensures) c.turn-answer.new.waiting.items c.turn-answer.result
    (c.turn-answer.ensures.turns w left stands kept) c.in_ok-write_before.ensures.ok _ _ (told_known _ _ _ (sym c.wants_memory_in.ensures
    ∙ c.if-wants_memory_in.false) c.standing.ensures) c.is_unfinished_after.ensures
    c.in_ok-write_after.ensures.ok
