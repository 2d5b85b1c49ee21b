use Rattle.std.proofs.Common.{◌∙◌, refl, sym, ap, subst, false, ◌∷◌, length, arith}
use Rattle.cg_machine.specs.Shutdown.{greatest_from}
use Rattle.cg_interp.specs.declared.activity.Activity.TheVariants as activity_of
use Rattle.cg_interp.specs.Engines.{State, StandsFor, under}
use Rattle.cg_interp.proofs.CollectMoves.{engine_of}
use Rattle.cg_interp.proofs.ShutdownTurns.{gives_up, keeps_unbound}
use Rattle.cg_interp.proofs.engine.Engine.give_up.Goals as goal
use Rattle.cg_graph.specs.Value.{references_of_value}

pub returns-clause-gives : goal.returns-clause-gives
returns-clause-gives g c = λ found script w stands.
    let e : State = engine_of c.self.inside.heap c.self.inside.policy c.self.inside.stack c.self.inside.budget c.self.inside.first_budget in
    let new : State = engine_of c.unbind-val.new.self c.self.inside.policy c.push-2.new.self c.self.inside.budget c.self.inside.first_budget in
    gives_up script e new c.args.name c.unbind-val.result c.release_of.result w (subst (λ s. StandsFor script (under (activity_of.Shutdown false) s) w)
    (sym c.self.view_is) stands) c.sound.ensures c.unbind-val.ensures.old
    (ap (λ (s : State). greatest_from 0 s.store.names) c.self.view_is ∙ found) c.unbind-val.ensures.rest c.release_of.ensures refl
    (c.push-2.ensures.top ∙ ap (λ l. activity_of.Releasing c.release_of.result ∷ l) c.push.ensures.top) refl

pub returns-clause-keeps : goal.returns-clause-keeps
returns-clause-keeps g c =
    let e : State = engine_of c.self.inside.heap c.self.inside.policy c.self.inside.stack c.self.inside.budget c.self.inside.first_budget in
    let new : State = engine_of c.unbind-val.new.self c.self.inside.policy c.push-2.new.self c.self.inside.budget c.self.inside.first_budget in
    let first = ap length c.push.ensures.top in
    let second = ap length c.push-2.ensures.top in
    keeps_unbound e c.args.self.now new c.self.view_is (references_of_value c.unbind-val.result) c.args.name c.unbind-val.ensures.rest
    (omega (arith, first, second)) (omega (arith, c.push.ensures.room, c.push-2.ensures.room)) refl
