use Rattle.cg_interp.specs.Telling.{TurnsBy}
use Rattle.cg_interp.specs.Quietly.{ComesBy}
use Rattle.std.proofs.Common.{subst, sym, ◌∙◌, ap, Some, [], arith}
use Rattle.cg_interp.specs.declared.activity.Activity.TheVariants as activity_of
use Rattle.cg_interp.specs.Engines.{commands_from}
use Rattle.cg_interp.proofs.LawsOfEngines.{has_room}
use Rattle.cg_interp.proofs.AnswersOfTurns.{turns_plainly}
use Rattle.cg_interp.proofs.RoomStays.{fit_here, fit_then}
use Rattle.cg_interp.proofs.SilentTurns.{comes_here, at_turn_then, tells_then, tells_from_then, turns_from_then}
use Rattle.cg_interp.proofs.StepLemmas.{caller_detects_none, comes_next}
use Rattle.cg_interp.specs.Callers.{frame_caller}
use Rattle.cg_interp.proofs.engine.Engine.go_on_at.Goals as goal

pub commands-init : goal.commands-init
commands-init g c =
    let top = activity_of.Frame c.args.locals c.args.procedure (Some c.args.number) in
    record { comes = subst (λ es. ComesBy c.args.script.now es top c.args.self.now top c.args.self.now) (sym c.requires.empty) (comes_here c.args.script.now top c.args.self.now); fit = fit_here c.args.self.now }

pub make_changes-requires : goal.make_changes-requires
make_changes-requires g c = record {
  stands = (
    c.args.script.now,
    c.body_of-body.ensures,
    at_turn_then c.args.script.now (activity_of.Frame c.args.locals c.args.procedure (Some c.args.number)) (activity_of.Frame c.args.locals c.args.procedure
        (Some c.commands.number)) c.args.self.now c.commands.self c.commands.invariant.comes c.commands.invariant.fit c.requires.stands,
  );
}

pub returns-in-Some-clause-turns : goal.returns-in-Some-clause-turns
returns-in-Some-clause-turns g c =
    turns_from_then c.args.script.now (activity_of.Frame c.args.locals c.args.procedure (Some c.args.number)) (activity_of.Frame c.args.locals c.args.procedure
    (Some c.commands.number)) c.args.self.now c.commands.self c.commands.invariant.comes c.commands.invariant.fit
    (λ w. caller_detects_none c.args.script.now c.commands.self w (frame_caller c.args.locals c.args.procedure (Some c.commands.number))) _ _
    (c.in-Some.ensures.steps c.args.script.now c.body_of-body.ensures)

pub step-requires-clause-stands : goal.step-requires-clause-stands
step-requires-clause-stands g c =
    let before = activity_of.Frame c.args.locals c.args.procedure (Some c.commands.number) in
    let changed = activity_of.Frame c.args.locals c.args.procedure (Some c.make_changes.new.number) in (
      c.args.script.now,
      comes_next c.args.script.now c.args.locals c.args.procedure (Some c.make_changes.new.number) c.in-Some-next_of.command.now c.in-Some-next_of.after
          c.body_of-body.result.now c.body_of-body.ensures c.in-Some-next_of.ensures.some,
      at_turn_then c.args.script.now before changed c.commands.self c.make_changes.new.self (c.in-None.ensures.steps c.args.script.now c.body_of-body.ensures) c.make_changes.ensures.fit
          (at_turn_then c.args.script.now (activity_of.Frame c.args.locals c.args.procedure (Some c.args.number)) before c.args.self.now c.commands.self
          c.commands.invariant.comes c.commands.invariant.fit c.requires.stands),
    )

pub returns-in-Some-step-clause-turns : goal.returns-in-Some-step-clause-turns
returns-in-Some-step-clause-turns g c =
    let before = activity_of.Frame c.args.locals c.args.procedure (Some c.commands.number) in
    let changed = activity_of.Frame c.args.locals c.args.procedure (Some c.make_changes.new.number) in
    subst (λ es. TurnsBy c.args.script.now es (activity_of.Frame c.args.locals c.args.procedure (Some c.args.number)) c.args.self.now c.step.new.self c.in-Some-step.answer)
    (sym c.in-Some-step.ensures.waits)
    (turns_from_then c.args.script.now (activity_of.Frame c.args.locals c.args.procedure (Some c.args.number)) before c.args.self.now c.commands.self c.commands.invariant.comes c.commands.invariant.fit
    (λ w. caller_detects_none c.args.script.now c.commands.self w (frame_caller c.args.locals c.args.procedure (Some c.commands.number))) _ _
    (turns_from_then c.args.script.now before changed c.commands.self c.make_changes.new.self (c.in-None.ensures.steps c.args.script.now c.body_of-body.ensures) c.make_changes.ensures.fit
    (λ w. caller_detects_none c.args.script.now c.make_changes.new.self w (frame_caller c.args.locals c.args.procedure (Some c.make_changes.new.number))) _ _
    (c.in-Some-step.ensures.steps c.args.script.now
    (comes_next c.args.script.now c.args.locals c.args.procedure (Some c.make_changes.new.number) c.in-Some-next_of.command.now c.in-Some-next_of.after
    c.body_of-body.result.now c.body_of-body.ensures c.in-Some-next_of.ensures.some))))

pub commands-preserved : goal.commands-preserved
commands-preserved g c =
    let before = activity_of.Frame c.args.locals c.args.procedure (Some c.commands.number) in
    let changed = activity_of.Frame c.args.locals c.args.procedure (Some c.make_changes.new.number) in
    let after = activity_of.Frame c.args.locals c.args.procedure (Some c.in-Some-next_of.after) in
    record {
      comes =
          tells_then c.args.script.now (activity_of.Frame c.args.locals c.args.procedure (Some c.args.number)) before c.args.self.now c.commands.self
          c.commands.invariant.comes c.commands.invariant.fit c.step.new.waiting.items after c.step.new.self
          (tells_from_then c.args.script.now before changed c.commands.self c.make_changes.new.self (c.in-None.ensures.steps c.args.script.now
          c.body_of-body.ensures) c.make_changes.ensures.fit c.commands.waiting.items c.step.new.waiting.items after c.step.new.self
          (c.in-None-step.ensures.steps c.args.script.now
          (comes_next c.args.script.now c.args.locals c.args.procedure (Some c.make_changes.new.number) c.in-Some-next_of.command.now c.in-Some-next_of.after
          c.body_of-body.result.now c.body_of-body.ensures c.in-Some-next_of.ensures.some)));
      fit = fit_then c.args.self.now c.commands.self c.step.new.self c.commands.invariant.fit (fit_then c.commands.self c.make_changes.new.self c.step.new.self
          c.make_changes.ensures.fit c.step.ensures.fit);
    }

pub leave-requires : goal.leave-requires
leave-requires g c =
    let before = activity_of.Frame c.args.locals c.args.procedure (Some c.commands.number) in
    let changed = activity_of.Frame c.args.locals c.args.procedure (Some c.make_changes.new.number) in
    let at =
    at_turn_then c.args.script.now before changed c.commands.self c.make_changes.new.self (c.in-None.ensures.steps c.args.script.now c.body_of-body.ensures) c.make_changes.ensures.fit
    (at_turn_then c.args.script.now (activity_of.Frame c.args.locals c.args.procedure (Some c.args.number)) before c.args.self.now c.commands.self
    c.commands.invariant.comes c.commands.invariant.fit c.requires.stands) in
    record { room = omega (arith, has_room c.args.script.now changed c.make_changes.new.self at.world at.stands (at.kept [] tt).lawful at.fit) }

pub returns-in-None-next_of-clause-turns : goal.returns-in-None-next_of-clause-turns
returns-in-None-next_of-clause-turns g c =
    let before = activity_of.Frame c.args.locals c.args.procedure (Some c.commands.number) in
    let changed = activity_of.Frame c.args.locals c.args.procedure (Some c.make_changes.new.number) in
    turns_from_then c.args.script.now (activity_of.Frame c.args.locals c.args.procedure (Some c.args.number)) before c.args.self.now c.commands.self c.commands.invariant.comes c.commands.invariant.fit
    (λ w. caller_detects_none c.args.script.now c.commands.self w (frame_caller c.args.locals c.args.procedure (Some c.commands.number))) _ _
    (turns_from_then c.args.script.now before changed c.commands.self c.make_changes.new.self (c.in-None.ensures.steps c.args.script.now c.body_of-body.ensures) c.make_changes.ensures.fit
    (λ w. caller_detects_none c.args.script.now c.make_changes.new.self w (frame_caller c.args.locals c.args.procedure (Some c.make_changes.new.number))) c.leave.new.self c.leave.result
    (λ w stands kept.
    turns_plainly c.args.script.now w c.leave.new.self c.leave.result
    (c.leave.ensures.leaves c.args.script.now c.args.procedure (Some c.make_changes.new.number) w (ap (commands_from (Some c.make_changes.new.number))
    (sym c.body_of-body.ensures) ∙ c.in-None-next_of.ensures.none) stands)))
