use Rattle.std.proofs.Common.{sym, subst, inl, Ok, Some, None}
use Rattle.cg_value.specs.declared.Val.TheVariants as val_of
use Rattle.cg_graph.specs.Value.{item}
use Rattle.cg_heap.specs.Calls.{HasFewHolds}
use Rattle.cg_machine.specs.Commands.{effect}
use Rattle.cg_machine.specs.Frame.{start_frame}
use Rattle.cg_interp.specs.Callers.{caller_activity, IsPerformed, HasPerformed, transition_of_change, call_of}
use Rattle.cg_interp.proofs.AnswerLemmas.{call_may, quit_may, may_give_up, change_runs, tells_to, told, as_before, called_lives}
use Rattle.cg_interp.proofs.engine.Engine.proceed.Goals as goal

pub give_up_after-requires-clause-stands : goal.give_up_after-requires-clause-stands
give_up_after-requires-clause-stands g c =
    let (script, spelled, fit, performed) = c.requires.performed in
    let has = subst (λ d. HasPerformed script (caller_activity c.args.caller.now) c.args.self.now (Ok d)) c.in-Changed.is performed in
    may_give_up script c.args.self.now (caller_activity c.args.caller.now) has.world has.command has.before has.was c.in-Changed.line c.in-Changed.given_up has.performed

pub returns-in-Some-clause-does : goal.returns-in-Some-clause-does
returns-in-Some-clause-does g c = λ script w command before was performed.
    let p = subst (λ d. IsPerformed script (caller_activity c.args.caller.now) c.args.self.now w command before was (Ok d)) c.in-Changed.is performed in
    change_runs script c.args.self.now (caller_activity c.args.caller.now) w command before was c.in-Changed.line c.in-Changed.given_up p
    c.give_up_after.new.self (Some c.in-Some.answer) c.in-Some.ensures.gives_up

pub returns-in-None-clause-does : goal.returns-in-None-clause-does
returns-in-None-clause-does g c = λ script w command before was performed.
    let p = subst (λ d. IsPerformed script (caller_activity c.args.caller.now) c.args.self.now w command before was (Ok d)) c.in-Changed.is performed in
    tells_to script w command (caller_activity c.args.caller.now) c.give_up_after.new.self c.tell_line.new.self c.in-Changed.line _ _ c.tell_line.result
    (change_runs script c.args.self.now (caller_activity c.args.caller.now) w command before was c.in-Changed.line c.in-Changed.given_up p
    c.give_up_after.new.self None c.in-None.ensures.gives_up) c.tell_line.ensures.tells

pub call-requires-clause-few : goal.call-requires-clause-few
call-requires-clause-few g c =
    let (script, spelled, fit, performed) = c.requires.performed in
    let has = subst (λ d. HasPerformed script (caller_activity c.args.caller.now) c.args.self.now (Ok d)) c.in-Calls.is performed in
    subst HasFewHolds (sym has.performed.answers.heap.1) has.few

pub call-requires-clause-live : goal.call-requires-clause-live
call-requires-clause-live g c =
    let (script, spelled, fit, performed) = c.requires.performed in
    let has = subst (λ d. HasPerformed script (caller_activity c.args.caller.now) c.args.self.now (Ok d)) c.in-Calls.is performed in
    called_lives script c.args.self.now (caller_activity c.args.caller.now) has.world has.command has.before has.was c.in-Calls.function has.performed

pub returns-in-Calls-clause-does : goal.returns-in-Calls-clause-does
returns-in-Calls-clause-does g c = λ script w command before was performed.
    let p = subst (λ d. IsPerformed script (caller_activity c.args.caller.now) c.args.self.now w command before was (Ok d)) c.in-Calls.is performed in
    inl (record {
      transition = start_frame script (call_of c.in-Calls.function w) w;
      may = call_may script w (effect w command) c.in-Calls.function p.answers.heap.0;
      makes = c.call.ensures.calls script w (as_before script c.args.self.now (caller_activity c.args.caller.now) w command before was p.stood p.answers.heap.1 p.answers.policy);
    })

pub collect_if_idle-requires-clause-generation : goal.collect_if_idle-requires-clause-generation
collect_if_idle-requires-clause-generation g c =
    let (script, spelled, fit, performed) = c.requires.performed in
    let has = subst (λ d. HasPerformed script (caller_activity c.args.caller.now) c.args.self.now (Ok d)) c.in-Collects.is performed in
    has.performed.answers.heap.1

pub collect_if_idle-requires-clause-stands : goal.collect_if_idle-requires-clause-stands
collect_if_idle-requires-clause-stands g c =
    let (script, spelled, fit, performed) = c.requires.performed in
    let has = subst (λ d. HasPerformed script (caller_activity c.args.caller.now) c.args.self.now (Ok d)) c.in-Collects.is performed in
    let p = has.performed in (
      script,
      spelled,
      fit,
      has.command,
      has.world,
      as_before script c.args.self.now (caller_activity c.args.caller.now) has.world has.command has.before has.was
          p.stood p.answers.heap.2 p.answers.policy,
      p.answers.heap.0,
      p.kept,
    )

pub returns-in-Collects-clause-does : goal.returns-in-Collects-clause-does
returns-in-Collects-clause-does g c = λ script w command before was performed.
    let p = subst (λ d. IsPerformed script (caller_activity c.args.caller.now) c.args.self.now w command before was (Ok d)) c.in-Collects.is performed in
    c.collect_if_idle.ensures.does script command w (as_before script c.args.self.now (caller_activity c.args.caller.now) w command before was p.stood
    p.answers.heap.2 p.answers.policy) p.answers.heap.0

pub returns-in-Tells-clause-does : goal.returns-in-Tells-clause-does
returns-in-Tells-clause-does g c = λ script w command before was performed.
    let p = subst (λ d. IsPerformed script (caller_activity c.args.caller.now) c.args.self.now w command before was (Ok d)) c.in-Tells.is performed in
    let t = told script c.args.self.now (caller_activity c.args.caller.now) w command before was c.in-Tells.lines p in
    inl (record { transition = transition_of_change c.in-Tells.lines (item val_of.None) t.after; may = t.may; makes = c.tell.ensures.tells script t.after t.changes })

pub returns-in-Quits-clause-does : goal.returns-in-Quits-clause-does
returns-in-Quits-clause-does g c = λ script w command before was performed.
    let p = subst (λ d. IsPerformed script (caller_activity c.args.caller.now) c.args.self.now w command before was (Ok d)) c.in-Quits.is performed in
    inl (record {
      transition = _;
      may = quit_may script w (effect w command) p.answers.heap.0;
      makes = c.quit.ensures.quits script w (as_before script c.args.self.now (caller_activity c.args.caller.now) w command before was p.stood p.answers.heap.1 p.answers.policy);
    })
