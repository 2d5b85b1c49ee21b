use Rattle.std.proofs.Common.{refl, sym, ap, subst, ◌∙◌, Some, None}
use Rattle.cg_interp.specs.declared.activity.Activity.TheVariants as activity_of
use Rattle.cg_interp.specs.Telling.{IsAtTurn, TurnsBy}
use Rattle.cg_interp.specs.Quietly.{ComesBy}
use Rattle.cg_interp.specs.Callers.{caller_activity, caller_locals, script_caller, with_next, ComesNext, StepsOn}
use Rattle.cg_interp.proofs.RoomStays.{fit_here, fit_then}
use Rattle.cg_interp.proofs.SilentTurns.{comes_here, at_turn_then, tells_then, turns_from_then}
use Rattle.cg_interp.proofs.StepLemmas.{caller_detects_none}
use Rattle.cg_interp.proofs.engine.Engine.go_on.Goals as goal

pub commands-init : goal.commands-init
commands-init g c = record {
  comes = subst (λ es. ComesBy c.args.script.now es (activity_of.Script c.args.next) c.args.self.now (activity_of.Script c.args.next) c.args.self.now) (sym c.requires.empty)
      (comes_here c.args.script.now (activity_of.Script c.args.next) c.args.self.now);
  fit = fit_here c.args.self.now;
  caller = refl;
}

pub step-requires : goal.step-requires
step-requires g c =
    let gone = c.go_on_from.ensures ∙ ap (with_next (Some c.in-Some.after)) c.commands.invariant.caller in
    record {
      own = sym (ap caller_locals gone);
      stands = (
        c.args.script.now,
        subst (λ k. ComesNext c.args.script.now k c.commands.next c.in-Some.command.now) (sym gone) c.in-Some.ensures.some,
        subst (λ k. IsAtTurn c.args.script.now (caller_activity (with_next c.commands.next k)) c.commands.self) (sym gone)
            (at_turn_then c.args.script.now (activity_of.Script c.args.next) (activity_of.Script c.commands.next) c.args.self.now c.commands.self
            c.commands.invariant.comes c.commands.invariant.fit c.requires.stands),
      );
    }

pub returns-in-Some-step-clause-turns : goal.returns-in-Some-step-clause-turns
returns-in-Some-step-clause-turns g c =
    let gone = c.go_on_from.ensures ∙ ap (with_next (Some c.in-Some.after)) c.commands.invariant.caller in
    subst (λ es. TurnsBy c.args.script.now es (activity_of.Script c.args.next) c.args.self.now c.step.new.self c.in-Some-step.answer) (sym c.in-Some-step.ensures.waits)
    (turns_from_then c.args.script.now (activity_of.Script c.args.next) (activity_of.Script c.commands.next) c.args.self.now c.commands.self c.commands.invariant.comes c.commands.invariant.fit
    (λ w. caller_detects_none c.args.script.now c.commands.self w (script_caller c.commands.next)) _ _
    (subst (λ k. StepsOn c.args.script.now k c.commands.next c.commands.self c.step.new.self c.commands.waiting.items c.step.new.waiting.items (Some c.in-Some-step.answer)) gone
    (c.in-Some-step.ensures.steps c.args.script.now
    (subst (λ k. ComesNext c.args.script.now k c.commands.next c.in-Some.command.now) (sym gone) c.in-Some.ensures.some))))

pub returns-in-Some-step-clause-fit : goal.returns-in-Some-step-clause-fit
returns-in-Some-step-clause-fit g c = fit_then c.args.self.now c.commands.self c.step.new.self c.commands.invariant.fit c.step.ensures.fit

pub commands-preserved : goal.commands-preserved
commands-preserved g c =
    let gone = c.go_on_from.ensures ∙ ap (with_next (Some c.in-Some.after)) c.commands.invariant.caller in
    record {
      comes = tells_then c.args.script.now (activity_of.Script c.args.next) (activity_of.Script c.commands.next) c.args.self.now c.commands.self
          c.commands.invariant.comes c.commands.invariant.fit
          c.step.new.waiting.items (activity_of.Script (Some c.in-Some.after)) c.step.new.self
          (subst (λ k. StepsOn c.args.script.now k c.commands.next c.commands.self c.step.new.self c.commands.waiting.items c.step.new.waiting.items None) gone
          (c.in-None-step.ensures.steps c.args.script.now
          (subst (λ k. ComesNext c.args.script.now k c.commands.next c.in-Some.command.now) (sym gone) c.in-Some.ensures.some)));
      fit = fit_then c.args.self.now c.commands.self c.step.new.self c.commands.invariant.fit c.step.ensures.fit;
      caller = gone;
    }

pub end-requires-clause-stands : goal.end-requires-clause-stands
end-requires-clause-stands g c =
    at_turn_then c.args.script.now (activity_of.Script c.args.next) (activity_of.Script c.commands.next) c.args.self.now c.commands.self
    c.commands.invariant.comes c.commands.invariant.fit c.requires.stands

pub returns-in-None-clause-turns : goal.returns-in-None-clause-turns
returns-in-None-clause-turns g c =
    turns_from_then c.args.script.now (activity_of.Script c.args.next) (activity_of.Script c.commands.next) c.args.self.now c.commands.self c.commands.invariant.comes c.commands.invariant.fit
    (λ w. caller_detects_none c.args.script.now c.commands.self w (script_caller c.commands.next)) c.end.new.self c.end.result c.end.ensures.turns

pub returns-in-None-clause-fit : goal.returns-in-None-clause-fit
returns-in-None-clause-fit g c = fit_then c.args.self.now c.commands.self c.end.new.self c.commands.invariant.fit c.end.ensures.fit
