use Rattle.std.proofs.Common.{refl, sym, ◌∙◌, ap, subst, [], None, Some, false, arith}
use Rattle.cg_heap.specs.Calls.{IsSound}
use Rattle.cg_machine.specs.World.{push}
use Rattle.cg_machine.specs.Commands.{new_collection}
use Rattle.cg_policy.specs.Policy.{due_of}
use Rattle.cg_commands.specs.Stands.{LocalsLive}
use Rattle.cg_interp.specs.Engines.{State, under}
use Rattle.cg_interp.specs.Callers.{caller_activity, with_next}
use Rattle.cg_interp.proofs.RoomStays.{still_fit}
use Rattle.cg_interp.proofs.LawsOfEngines.{has_room}
use Rattle.cg_interp.proofs.StepLemmas.{due_in, kept_after, begins_collection, caller_collects, caller_doable, caller_live, may_command, at_command, steps_told, quiet_step}
use Rattle.cg_interp.proofs.engine.Engine.step.Goals as goal

pub collect_first-requires-clause-stands : goal.collect_first-requires-clause-stands
collect_first-requires-clause-stands g c =
    let (script, is_next, at) = c.requires.stands in
    let is = sym c.in-Some.is ∙ c.due.ensures ∙ ap (λ (e : State). due_of e.policy) c.self.view_is in
    let step = caller_collects script c.args.self.now at.world c.args.next c.args.command.now c.args.caller.now is_next at.stands c.in-Some.generation
    (due_in script (under (caller_activity (with_next c.args.next c.args.caller.now)) c.args.self.now) at.world (Some c.in-Some.generation) at.stands is) in (
      script,
      at.spelled,
      at.fit,
      at.world,
      at.stands,
      kept_after script at.world (push (new_collection c.in-Some.generation false at.world) at.world)
          at.stands.running c.args.self.now.first_budget [] step at.kept,
    )

pub collect_first-requires-clause-room : goal.collect_first-requires-clause-room
collect_first-requires-clause-room g c =
    let (script, is_next, at) = c.requires.stands in
    omega (arith, has_room script (caller_activity (with_next c.args.next c.args.caller.now)) c.args.self.now at.world at.stands (at.kept [] tt).lawful at.fit)

pub returns-in-Some-clause-steps : goal.returns-in-Some-clause-steps
returns-in-Some-clause-steps g c = λ script is_next w stands kept.
    let is = sym c.in-Some.is ∙ c.due.ensures ∙ ap (λ (e : State). due_of e.policy) c.self.view_is in
    let step = caller_collects script c.args.self.now w c.args.next c.args.command.now c.args.caller.now is_next stands c.in-Some.generation
    (due_in script (under (caller_activity (with_next c.args.next c.args.caller.now)) c.args.self.now) w (Some c.in-Some.generation) stands is) in
    begins_collection script w (push (new_collection c.in-Some.generation false w) w) stands.running c.collect_first.new.self step
    (c.collect_first.ensures.begins script w stands)

pub returns-in-Some-clause-fit : goal.returns-in-Some-clause-fit
returns-in-Some-clause-fit g c = still_fit c.args.self.now c.collect_first.new.self c.collect_first.ensures.keeps

pub run-requires-clause-spelled : goal.run-requires-clause-spelled
run-requires-clause-spelled g c =
    let (script, is_next, at) = c.requires.stands in
    caller_doable script c.args.self.now at.world c.args.next c.args.command.now at.spelled _ at.fit.names c.args.caller.now is_next

pub run-requires-clause-locals : goal.run-requires-clause-locals
run-requires-clause-locals g c =
    let (script, is_next, at) = c.requires.stands in
    subst (LocalsLive c.args.self.now.store) (sym c.requires.own) (caller_live script c.args.self.now at.world c.args.self.now.first_budget c.args.next
    c.args.caller.now at.stands (at.kept [] tt).lawful)

pub run-requires-clause-may : goal.run-requires-clause-may
run-requires-clause-may g c =
    let (script, is_next, at) = c.requires.stands in
    may_command script c.args.self.now at.world (caller_activity (with_next c.args.next c.args.caller.now)) at.stands (at.kept [] tt)
    (subst (λ e. IsSound e.store) c.self.view_is c.sound.ensures) at.spelled at.fit

pub run-requires-clause-stands : goal.run-requires-clause-stands
run-requires-clause-stands g c =
    let (script, is_next, at) = c.requires.stands in
    let none = due_in script (under (caller_activity (with_next c.args.next c.args.caller.now)) c.args.self.now) at.world None at.stands (sym c.in-None.is
    ∙ c.due.ensures ∙ ap (λ (e : State). due_of e.policy) c.self.view_is) in
    let command = at_command script c.args.caller.now c.args.next c.args.command.now c.args.self.now c.args.self.now is_next at.world at.stands at.kept none in
    (script, at.spelled, at.fit, command.0, command.1)

pub step_change-requires-clause-none : goal.step_change-requires-clause-none
step_change-requires-clause-none g c = sym (sym c.in-None.is ∙ c.due.ensures ∙ ap (λ (e : State). due_of e.policy) c.self.view_is)

pub step_change-requires-clause-stands : goal.step_change-requires-clause-stands
step_change-requires-clause-stands g c = let (script, is_next, at) = c.requires.stands in (script, c.args.next, is_next, at)

pub returns-then-only_changes-clause-steps : goal.returns-then-only_changes-clause-steps
returns-then-only_changes-clause-steps g c = λ script is_next.
    quiet_step script c.args.caller.now c.args.next c.args.self.now c.step_change.new.self _ _ refl c.step_change.result (c.step_change.ensures.steps script c.args.next is_next)

pub returns-else-only_changes-clause-steps : goal.returns-else-only_changes-clause-steps
returns-else-only_changes-clause-steps g c = λ script is_next.
    steps_told script c.args.caller.now c.args.next c.args.command.now c.args.self.now c.run.new.self is_next
    (λ w stands. due_in script (under (caller_activity (with_next c.args.next c.args.caller.now)) c.args.self.now) w None stands (sym c.in-None.is
    ∙ c.due.ensures ∙ ap (λ (e : State). due_of e.policy) c.self.view_is))
    _ _ c.run.result
    (c.run.ensures.does script)
