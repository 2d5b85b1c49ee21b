use Rattle.std.proofs.Common.{sym, subst}
use Rattle.cg_interp.specs.declared.activity.Activity.TheVariants as activity_of
use Rattle.cg_interp.specs.Engines.{State, StandsFor, under}
use Rattle.cg_interp.specs.Turns.{TurnKeeps}
use Rattle.cg_interp.proofs.CollectMoves.{engine_of}
use Rattle.cg_interp.proofs.ReleaseLemmas.{death_begun, still_sound}
use Rattle.cg_interp.proofs.RoomStays.{keeps_then, keeps_over}
use Rattle.cg_interp.proofs.engine.Engine.go_on_releasing.Goals as goal

pub give_up-requires : goal.give_up-requires
give_up-requires g c =
    let (script, w, stands, sound) = c.requires.stands in
    let e : State = engine_of c.self.inside.heap c.self.inside.policy c.self.inside.stack c.self.inside.budget c.self.inside.first_budget in
    record { stands = (script, e, w, subst (λ s. StandsFor script (under (activity_of.Releasing c.args.release) s) w) (sym c.self.view_is) stands, sound) }

pub die_in-requires-clause-stands : goal.die_in-requires-clause-stands
die_in-requires-clause-stands g c =
    let (script, w, stands, sound) = c.requires.stands in
    let e : State = engine_of c.self.inside.heap c.self.inside.policy c.self.inside.stack c.self.inside.budget c.self.inside.first_budget in
    let gives = c.in-Some.ensures.releases script e w (subst (λ s. StandsFor script (under (activity_of.Releasing c.args.release) s) w) (sym c.self.view_is) stands) sound in
    (script, gives.before, gives.stands, still_sound script w c.in-Some.object _ sound gives)

pub returns-in-Some-clause-turns : goal.returns-in-Some-clause-turns
returns-in-Some-clause-turns g c = λ script w stands sound.
    let e : State = engine_of c.self.inside.heap c.self.inside.policy c.self.inside.stack c.self.inside.budget c.self.inside.first_budget in
    let gives = c.in-Some.ensures.releases script e w (subst (λ s. StandsFor script (under (activity_of.Releasing c.args.release) s) w) (sym c.self.view_is) stands) sound in
    death_begun script w c.in-Some.object _ c.die_in.new.self gives (c.die_in.ensures.begins script gives.before gives.stands)

pub returns-in-Some-clause-keeps : goal.returns-in-Some-clause-keeps
returns-in-Some-clause-keeps g c =
    let e : State = engine_of c.self.inside.heap c.self.inside.policy c.self.inside.stack c.self.inside.budget c.self.inside.first_budget in
    subst (λ s. TurnKeeps s c.die_in.new.self) c.self.view_is (keeps_then e _ _ (keeps_over e c.give_up.new.heap c.give_up.ensures.objects) c.die_in.ensures.keeps)

pub returns-in-None-clause-turns : goal.returns-in-None-clause-turns
returns-in-None-clause-turns g c = λ script w stands sound.
    let e : State = engine_of c.self.inside.heap c.self.inside.policy c.self.inside.stack c.self.inside.budget c.self.inside.first_budget in
    c.in-None.ensures.releases script e w (subst (λ s. StandsFor script (under (activity_of.Releasing c.args.release) s) w) (sym c.self.view_is) stands) sound
