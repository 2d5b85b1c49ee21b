use Rattle.std.proofs.Common.{◌∙◌, sym, ap, subst, ◌+◌, Some, None, length, arith}
use Rattle.cg_policy.specs.Policy.{due_of}
use Rattle.cg_interp.specs.declared.activity.Activity.TheVariants as activity_of
use Rattle.cg_interp.specs.Callers.{caller_activity, caller_locals, with_next, StepsFrom, frame_caller}
use Rattle.cg_interp.specs.Telling.{IsAtTurn}
use Rattle.cg_interp.proofs.RoomStays.{fit_then}
use Rattle.cg_interp.proofs.SilentTurns.{at_turn_then, comes_from_then, turns_from_then}
use Rattle.cg_interp.proofs.StepLemmas.{caller_detects_none, comes_next_at}
use Rattle.cg_interp.proofs.engine.Engine.make_changes_from.Goals as goal

pub step_change-requires-clause-own : goal.step_change-requires-clause-own
step_change-requires-clause-own g c =
    let frame = c.go_on_from.ensures ∙ ap (with_next (Some (c.commands.at + 1))) c.commands.invariant.caller in
    sym (ap caller_locals frame)

pub step_change-requires-clause-stands : goal.step_change-requires-clause-stands
step_change-requires-clause-stands g c =
    let frame = c.go_on_from.ensures ∙ ap (with_next (Some (c.commands.at + 1))) c.commands.invariant.caller in
    let (script, is, at) = c.requires.stands in (
      script,
      Some c.commands.at,
      (comes_next_at script c.args.locals c.args.procedure c.commands.at c.commands.command.now c.args.body.now _ frame is c.commands.invariant.there),
      subst (λ k. IsAtTurn script (caller_activity (with_next (Some c.commands.at) k)) c.commands.self) (sym frame)
          (at_turn_then script (activity_of.Frame c.args.locals c.args.procedure (Some c.args.number.now)) (activity_of.Frame c.args.locals c.args.procedure
          (Some c.commands.at)) c.args.self.now c.commands.self (c.commands.invariant.comes script is) c.commands.invariant.fit at),
    )

pub returns-in-Some-clause-steps : goal.returns-in-Some-clause-steps
returns-in-Some-clause-steps g c = λ script is.
    let frame = c.go_on_from.ensures ∙ ap (with_next (Some (c.commands.at + 1))) c.commands.invariant.caller in
    turns_from_then script (activity_of.Frame c.args.locals c.args.procedure (Some c.args.number.now)) (activity_of.Frame c.args.locals c.args.procedure
    (Some c.commands.at)) c.args.self.now c.commands.self (c.commands.invariant.comes script is) c.commands.invariant.fit
    (λ w. caller_detects_none script c.commands.self w (frame_caller c.args.locals c.args.procedure (Some c.commands.at))) _ _
    (subst (λ k. StepsFrom script k (Some c.commands.at) c.commands.self c.step_change.new.self (Some c.in-Some.answer)) frame
    (c.in-Some.ensures.steps script (Some c.commands.at)
    (comes_next_at script c.args.locals c.args.procedure c.commands.at c.commands.command.now c.args.body.now _ frame is c.commands.invariant.there)))

pub returns-in-Some-clause-left : goal.returns-in-Some-clause-left
returns-in-Some-clause-left g c =
    let one_less = ap length c.commands.invariant.there in
    let so_far = c.commands.invariant.left in omega arith

pub returns-in-None-next_change-clause-steps : goal.returns-in-None-next_change-clause-steps
returns-in-None-next_change-clause-steps g c = λ script is.
    let frame = c.go_on_from.ensures ∙ ap (with_next (Some (c.commands.at + 1))) c.commands.invariant.caller in
    comes_from_then script (activity_of.Frame c.args.locals c.args.procedure (Some c.args.number.now)) (activity_of.Frame c.args.locals c.args.procedure
    (Some c.commands.at)) c.args.self.now c.commands.self (c.commands.invariant.comes script is) c.commands.invariant.fit
    (activity_of.Frame c.args.locals c.args.procedure (Some (c.commands.at + 1))) c.step_change.new.self
    (subst (λ k. StepsFrom script k (Some c.commands.at) c.commands.self c.step_change.new.self None) frame
    (c.in-None.ensures.steps script (Some c.commands.at)
    (comes_next_at script c.args.locals c.args.procedure c.commands.at c.commands.command.now c.args.body.now _ frame is c.commands.invariant.there)))

pub returns-in-None-next_change-clause-left : goal.returns-in-None-next_change-clause-left
returns-in-None-next_change-clause-left g c =
    let one_less = ap length c.commands.invariant.there in
    let so_far = c.commands.invariant.left in omega arith

pub returns-in-None-next_change-clause-fit : goal.returns-in-None-next_change-clause-fit
returns-in-None-next_change-clause-fit g c = fit_then c.args.self.now c.commands.self c.step_change.new.self c.commands.invariant.fit c.step_change.ensures.fit

pub commands-preserved : goal.commands-preserved
commands-preserved g c =
    let frame = c.go_on_from.ensures ∙ ap (with_next (Some (c.commands.at + 1))) c.commands.invariant.caller in
    let one_less = ap length c.commands.invariant.there in
    let so_far = c.commands.invariant.left in
    record {
      comes = λ script is.
          comes_from_then script (activity_of.Frame c.args.locals c.args.procedure (Some c.args.number.now)) (activity_of.Frame c.args.locals c.args.procedure
          (Some c.commands.at)) c.args.self.now c.commands.self (c.commands.invariant.comes script is) c.commands.invariant.fit
          (activity_of.Frame c.args.locals c.args.procedure (Some (c.commands.at + 1))) c.step_change.new.self
          (subst (λ k. StepsFrom script k (Some c.commands.at) c.commands.self c.step_change.new.self None) frame
          (c.in-None.ensures.steps script (Some c.commands.at)
          (comes_next_at script c.args.locals c.args.procedure c.commands.at c.commands.command.now c.args.body.now _ frame is c.commands.invariant.there)));
      fit = fit_then c.args.self.now c.commands.self c.step_change.new.self c.commands.invariant.fit c.step_change.ensures.fit;
      none = ap due_of c.in-None.ensures.policy ∙ c.commands.invariant.none;
      caller = frame;
      left = omega arith;
      within = c.in-Some-next_change.ensures.within;
      there = c.in-Some-next_change.ensures.there;
      changes = c.in-Some-next_change.ensures.changes;
    }
