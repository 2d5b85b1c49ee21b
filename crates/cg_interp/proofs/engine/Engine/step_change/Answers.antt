use Rattle.std.proofs.Common.{sym, subst, inl, [], ◌<◌, false, length, arith, Ok, Err, None, Some}
use Rattle.cg_heap.specs.Calls.{HasFewHolds, IsSound}
use Rattle.cg_machine.specs.Commands.{effect, refused}
use Rattle.cg_script.specs.Spelled.{IsSpelledCommand}
use Rattle.cg_commands.specs.Answers.{gives}
use Rattle.cg_commands.specs.Refusals.{number_of}
use Rattle.cg_commands.specs.Stands.{LocalsLive}
use Rattle.cg_interp.specs.Engines.{State, under}
use Rattle.cg_interp.specs.Callers.{caller_activity, with_next}
use Rattle.cg_interp.specs.Turns.{Makes}
use Rattle.cg_interp.proofs.AnswerLemmas.{stand_here, policy_here, performed_by, may_give_up, change_runs, refusal_may, as_before}
use Rattle.cg_interp.proofs.CollectMoves.{engine_of}
use Rattle.cg_interp.proofs.RoomForDeaths.{fit_after}
use Rattle.cg_interp.proofs.RoomStays.{fit_then, still_fit}
use Rattle.cg_interp.proofs.StepLemmas.{due_in, caller_doable, caller_live, may_command, at_command, steps_from}
use Rattle.cg_interp.proofs.engine.Engine.step_change.Goals as goal

pub change-requires-clause-spelled : goal.change-requires-clause-spelled
change-requires-clause-spelled g c =
    let (script, next, is_next, at) = c.requires.stands in
    subst (λ (e : State). IsSpelledCommand (length e.store.names) c.args.command.now) (sym c.self.view_is)
    (caller_doable script c.args.self.now at.world next c.args.command.now at.spelled _ at.fit.names c.args.caller.now is_next)

pub change-requires-clause-locals : goal.change-requires-clause-locals
change-requires-clause-locals g c =
    let (script, next, is_next, at) = c.requires.stands in
    subst (λ (e : State). LocalsLive e.store c.args.locals.now) (sym c.self.view_is)
    (subst (LocalsLive c.args.self.now.store) (sym c.requires.own) (caller_live script c.args.self.now at.world c.args.self.now.first_budget next c.args.caller.now at.stands (at.kept [] tt).lawful))

pub change-requires-clause-few : goal.change-requires-clause-few
change-requires-clause-few g c =
    let (script, next, is_next, at) = c.requires.stands in
    subst (λ (e : State). HasFewHolds e.store) (sym c.self.view_is)
    (may_command script c.args.self.now at.world (caller_activity (with_next next c.args.caller.now)) at.stands (at.kept [] tt)
    (subst (λ e. IsSound e.store) c.self.view_is c.sound.ensures) at.spelled at.fit).few

pub give_up_after-requires-clause-room : goal.give_up_after-requires-clause-room
give_up_after-requires-clause-room g c =
    let (script, next, is_next, at) = c.requires.stands in
    subst (λ (e : State). 2 < e.room) (sym c.self.view_is)
    (may_command script c.args.self.now at.world (caller_activity (with_next next c.args.caller.now)) at.stands (at.kept [] tt)
    (subst (λ e. IsSound e.store) c.self.view_is c.sound.ensures) at.spelled at.fit).room

pub give_up_after-requires-clause-stands : goal.give_up_after-requires-clause-stands
give_up_after-requires-clause-stands g c =
    let (script, next, is_next, at) = c.requires.stands in
    let inside : State = engine_of c.self.inside.heap c.self.inside.policy c.self.inside.stack c.self.inside.budget c.self.inside.first_budget in
    let none = due_in script (under (caller_activity (with_next next c.args.caller.now)) c.args.self.now) at.world None at.stands (sym c.requires.none) in
    let command = at_command script c.args.caller.now next c.args.command.now c.args.self.now c.args.self.now is_next at.world at.stands at.kept none in
    may_give_up script (engine_of c.change.new.heap c.self.inside.policy c.self.inside.stack c.self.inside.budget c.self.inside.first_budget)
    (caller_activity c.args.caller.now) command.0 c.args.command.now c.self.inside.heap c.self.inside.policy None c.in-Ok.given_up
    (performed_by script c.args.caller.now c.args.locals.now inside c.args.self.now command.0 c.args.command.now c.self.view_is c.requires.own command.1
    c.change.new.heap c.self.inside.policy (gives (Ok c.in-Ok.given_up)) (c.in-Ok.ensures c.self.inside.policy).performs)

pub refuse-requires : goal.refuse-requires
refuse-requires g c =
    let (script, next, is_next, at) = c.requires.stands in
    let room : 2 < c.self.inside.stack.room = subst (λ (e : State). 2 < e.room) (sym c.self.view_is)
    (may_command script c.args.self.now at.world (caller_activity (with_next next c.args.caller.now)) at.stands (at.kept [] tt)
    (subst (λ e. IsSound e.store) c.self.view_is c.sound.ensures) at.spelled at.fit).room in
    record { room = omega (arith, room) }

pub returns-in-Ok-clause-steps : goal.returns-in-Ok-clause-steps
returns-in-Ok-clause-steps g c = λ script next is_next.
    let inside : State = engine_of c.self.inside.heap c.self.inside.policy c.self.inside.stack c.self.inside.budget c.self.inside.first_budget in
    steps_from script c.args.caller.now next c.args.command.now c.args.self.now c.give_up_after.new.self is_next
    (λ w stands. due_in script (under (caller_activity (with_next next c.args.caller.now)) c.args.self.now) w None stands (sym c.requires.none))
    c.give_up_after.result
    (λ w at.
    change_runs script (engine_of c.change.new.heap c.self.inside.policy c.self.inside.stack c.self.inside.budget c.self.inside.first_budget)
    (caller_activity c.args.caller.now) w c.args.command.now c.self.inside.heap c.self.inside.policy None c.in-Ok.given_up
    (performed_by script c.args.caller.now c.args.locals.now inside c.args.self.now w c.args.command.now c.self.view_is c.requires.own at c.change.new.heap
    c.self.inside.policy (gives (Ok c.in-Ok.given_up)) (c.in-Ok.ensures c.self.inside.policy).performs)
    c.give_up_after.new.self c.give_up_after.result c.give_up_after.ensures.gives_up)

pub returns-in-Err-clause-steps : goal.returns-in-Err-clause-steps
returns-in-Err-clause-steps g c = λ script next is_next.
    let inside : State = engine_of c.self.inside.heap c.self.inside.policy c.self.inside.stack c.self.inside.budget c.self.inside.first_budget in
    let e : State = engine_of c.change.new.heap c.self.inside.policy c.self.inside.stack c.self.inside.budget c.self.inside.first_budget in
    steps_from script c.args.caller.now next c.args.command.now c.args.self.now c.refuse.new.self is_next
    (λ w stands. due_in script (under (caller_activity (with_next next c.args.caller.now)) c.args.self.now) w None stands (sym c.requires.none))
    (Some c.refuse.result)
    (λ w at.
    let p = performed_by script c.args.caller.now c.args.locals.now inside c.args.self.now w c.args.command.now c.self.view_is c.requires.own at
    c.change.new.heap c.self.inside.policy (gives (Err c.in-Err.refusal)) (c.in-Err.ensures c.self.inside.policy).performs in
    inl (record {
      transition = refused (number_of c.in-Err.refusal) w;
      may = refusal_may script w (effect w c.args.command.now) c.in-Err.refusal p.answers.heap.0;
      makes = subst (λ n. Makes script (refused n w) c.refuse.new.self c.refuse.result) c.number.ensures
          (c.refuse.ensures.refuses script w (as_before script e (caller_activity c.args.caller.now) w c.args.command.now c.self.inside.heap
          c.self.inside.policy p.stood p.answers.heap.1 p.answers.policy));
    }))

pub returns-in-Ok-clause-fit : goal.returns-in-Ok-clause-fit
returns-in-Ok-clause-fit g c =
    let (script, next, is_next, at) = c.requires.stands in
    let inside : State = engine_of c.self.inside.heap c.self.inside.policy c.self.inside.stack c.self.inside.budget c.self.inside.first_budget in
    let none = due_in script (under (caller_activity (with_next next c.args.caller.now)) c.args.self.now) at.world None at.stands (sym c.requires.none) in
    let command = at_command script c.args.caller.now next c.args.command.now c.args.self.now c.args.self.now is_next at.world at.stands at.kept none in
    let here = stand_here script c.args.caller.now c.args.locals.now inside c.args.self.now command.0 c.args.command.now c.self.view_is c.requires.own command.1 in
    let policy = policy_here script c.args.caller.now c.args.locals.now inside c.args.self.now command.0 c.args.command.now c.self.view_is c.requires.own command.1 in
    fit_then c.args.self.now _ c.give_up_after.new.self
    (fit_after false c.args.self.now inside c.self.view_is c.change.new.heap c.self.inside.policy ((c.in-Ok.ensures c.self.inside.policy).grows command.0 here policy) (λ none. absurd (cc)))
    (still_fit _ c.give_up_after.new.self c.give_up_after.ensures.keeps)

pub returns-in-Err-clause-fit : goal.returns-in-Err-clause-fit
returns-in-Err-clause-fit g c =
    let (script, next, is_next, at) = c.requires.stands in
    let inside : State = engine_of c.self.inside.heap c.self.inside.policy c.self.inside.stack c.self.inside.budget c.self.inside.first_budget in
    let none = due_in script (under (caller_activity (with_next next c.args.caller.now)) c.args.self.now) at.world None at.stands (sym c.requires.none) in
    let command = at_command script c.args.caller.now next c.args.command.now c.args.self.now c.args.self.now is_next at.world at.stands at.kept none in
    let here = stand_here script c.args.caller.now c.args.locals.now inside c.args.self.now command.0 c.args.command.now c.self.view_is c.requires.own command.1 in
    let policy = policy_here script c.args.caller.now c.args.locals.now inside c.args.self.now command.0 c.args.command.now c.self.view_is c.requires.own command.1 in
    fit_then c.args.self.now _ c.refuse.new.self
    (fit_after false c.args.self.now inside c.self.view_is c.change.new.heap c.self.inside.policy ((c.in-Err.ensures c.self.inside.policy).grows command.0 here policy) (λ none. absurd (cc)))
    (still_fit _ c.refuse.new.self c.refuse.ensures.keeps)
