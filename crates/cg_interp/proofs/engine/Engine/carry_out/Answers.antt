use Rattle.std.proofs.Common.{sym, subst}
use Rattle.cg_heap.specs.Calls.{HasFewHolds}
use Rattle.cg_commands.specs.Stands.{LocalsLive}
use Rattle.cg_interp.specs.Engines.{State}
use Rattle.cg_interp.proofs.AnswerLemmas.{stand_here, policy_here, performed_by}
use Rattle.cg_interp.proofs.CollectMoves.{engine_of}
use Rattle.cg_interp.proofs.RoomForDeaths.{fit_after}
use Rattle.cg_interp.proofs.RoomStays.{still_fit, fit_then}
use Rattle.cg_interp.proofs.engine.Engine.carry_out.Goals as goal

pub perform-done-requires-clause-locals : goal.perform-done-requires-clause-locals
perform-done-requires-clause-locals g c =
    subst (λ (e : State). LocalsLive e.store c.args.locals.now) (sym c.self.view_is) c.requires.locals

pub answer-requires-clause-performed : goal.answer-requires-clause-performed
answer-requires-clause-performed g c =
    let (script, spelled, fit, w, at) = c.requires.stands in
    let inside : State = engine_of c.self.inside.heap c.self.inside.policy c.self.inside.stack c.self.inside.budget c.self.inside.first_budget in
    let here = stand_here script c.args.caller.now c.args.locals.now inside c.args.self.now w c.args.command.now c.self.view_is c.requires.own at in
    let policy = policy_here script c.args.caller.now c.args.locals.now inside c.args.self.now w c.args.command.now c.self.view_is c.requires.own at in (
      script,
      spelled,
      (fit_after c.args.room c.args.self.now inside c.self.view_is c.perform-done.new.heap c.perform-done.new.policy (c.perform-done.ensures.grows w here policy) c.requires.one_more).fit script fit,
      record {
        world = w;
        command = c.args.command.now;
        before = c.self.inside.heap;
        was = c.self.inside.policy;
        few = subst (λ (e : State). HasFewHolds e.store) (sym c.self.view_is) c.requires.may.few;
        performed = performed_by script c.args.caller.now c.args.locals.now inside c.args.self.now w c.args.command.now c.self.view_is c.requires.own at
            c.perform-done.new.heap c.perform-done.new.policy c.perform-done.result c.perform-done.ensures.performs;
      },
    )

pub returns-clause-does : goal.returns-clause-does
returns-clause-does g c = λ script w at.
    let inside : State = engine_of c.self.inside.heap c.self.inside.policy c.self.inside.stack c.self.inside.budget c.self.inside.first_budget in
    c.answer.ensures.does script w c.args.command.now c.self.inside.heap c.self.inside.policy
    (performed_by script c.args.caller.now c.args.locals.now inside c.args.self.now w c.args.command.now c.self.view_is c.requires.own at
    c.perform-done.new.heap c.perform-done.new.policy c.perform-done.result c.perform-done.ensures.performs)

pub returns-clause-fit : goal.returns-clause-fit
returns-clause-fit g c =
    let (script, spelled, fit, w, at) = c.requires.stands in
    let inside : State = engine_of c.self.inside.heap c.self.inside.policy c.self.inside.stack c.self.inside.budget c.self.inside.first_budget in
    let here = stand_here script c.args.caller.now c.args.locals.now inside c.args.self.now w c.args.command.now c.self.view_is c.requires.own at in
    let policy = policy_here script c.args.caller.now c.args.locals.now inside c.args.self.now w c.args.command.now c.self.view_is c.requires.own at in
    fit_then c.args.self.now _ c.answer.new.self
    (fit_after c.args.room c.args.self.now inside c.self.view_is c.perform-done.new.heap c.perform-done.new.policy (c.perform-done.ensures.grows w here policy) c.requires.one_more)
    (still_fit _ c.answer.new.self c.answer.ensures.keeps)
