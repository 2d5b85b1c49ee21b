use Rattle.std.proofs.Common.{sym, subst}
use Rattle.cg_machine.specs.Frame.{begin_death}
use Rattle.cg_interp.specs.Engines.{State, under}
use Rattle.cg_interp.specs.Callers.{caller_activity, releasing, Changes, GivesUp}
use Rattle.cg_interp.proofs.AnswerLemmas.{change_stands}
use Rattle.cg_interp.proofs.CollectMoves.{engine_of}
use Rattle.cg_interp.proofs.GivingUp.{release_detects_none}
use Rattle.cg_interp.proofs.SilentTurns.{quietly}
use Rattle.cg_interp.proofs.ReleaseLemmas.{still_sound}
use Rattle.cg_interp.proofs.engine.Engine.give_up_after.Goals as goal

pub give_up-requires : goal.give_up-requires
give_up-requires g c =
    let (script, after, changes, sound) = c.requires.stands in
    let top = caller_activity c.args.caller.now in
    let e : State = engine_of c.self.inside.heap c.self.inside.policy c.self.inside.stack c.self.inside.budget c.self.inside.first_budget in
    record {
      stands = (
        script,
        under top e,
        releasing c.args.given_up after,
        change_stands script top e c.args.given_up c.new-release.result after
            c.new-release.ensures (subst (λ s. Changes script top s c.args.given_up after) (sym c.self.view_is) changes),
        sound,
      );
    }

pub die_above-requires-clause-stands : goal.die_above-requires-clause-stands
die_above-requires-clause-stands g c =
    let (script, after, changes, sound) = c.requires.stands in
    let top = caller_activity c.args.caller.now in
    let e : State = engine_of c.self.inside.heap c.self.inside.policy c.self.inside.stack c.self.inside.budget c.self.inside.first_budget in
    let stood = change_stands script top e c.args.given_up c.new-release.result after c.new-release.ensures (subst (λ s. Changes script top s c.args.given_up after) (sym c.self.view_is) changes) in
    let gives = c.in_ok-object.ensures.releases script (under top e) (releasing c.args.given_up after) stood sound in (
      script,
      gives.before,
      gives.stands,
      still_sound script (releasing c.args.given_up after) c.in_ok-object.object _ sound gives,
    )

pub returns-clause-gives_up : goal.returns-clause-gives_up
returns-clause-gives_up g c = λ script after changes sound.
    let top = caller_activity c.args.caller.now in
    let e : State = engine_of c.self.inside.heap c.self.inside.policy c.self.inside.stack c.self.inside.budget c.self.inside.first_budget in
    let stood = change_stands script top e c.args.given_up c.new-release.result after c.new-release.ensures (subst (λ s. Changes script top s c.args.given_up after) (sym c.self.view_is) changes) in
    let gives = c.in_ok-object.ensures.releases script (under top e) (releasing c.args.given_up after) stood sound in (
      c.told.ensures,
      record {
        after = begin_death c.in_ok-object.object gives.before;
        goes = quietly script (releasing c.args.given_up after) (begin_death c.in_ok-object.object gives.before) (release_detects_none script c.new-release.result
            (under top e) (releasing c.args.given_up after) stood) gives.goes;
        stands = c.die_above.ensures.begins script gives.before gives.stands;
      },
    )

pub returns-in_err-object-clause-gives_up : goal.returns-in_err-object-clause-gives_up
returns-in_err-object-clause-gives_up g c = λ script after changes sound.
    let top = caller_activity c.args.caller.now in
    let e : State = engine_of c.self.inside.heap c.self.inside.policy c.self.inside.stack c.self.inside.budget c.self.inside.first_budget in
    let stood = change_stands script top e c.args.given_up c.new-release.result after c.new-release.ensures (subst (λ s. Changes script top s c.args.given_up after) (sym c.self.view_is) changes) in
    let goes = c.in_err-object.ensures.releases script (under top e) (releasing c.args.given_up after) stood sound in
    subst (GivesUp script (releasing c.args.given_up after) top _ c.args.line) (sym c.from_residual.ensures)
    (record {
      after = goes.after;
      goes = quietly script (releasing c.args.given_up after) goes.after (release_detects_none script c.new-release.result (under top e) (releasing c.args.given_up after) stood) goes.goes;
      stands = goes.stands;
    })
