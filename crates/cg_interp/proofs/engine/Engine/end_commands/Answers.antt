use Rattle.std.proofs.Common.{◌∙◌, refl, sym, subst, false, true}
use Rattle.cg_interp.specs.declared.activity.Activity.TheVariants as activity_of
use Rattle.cg_interp.specs.declared.turned.Turned.TheVariants as turned_of
use Rattle.cg_interp.specs.Engines.{State, StandsFor, under}
use Rattle.cg_interp.proofs.CollectMoves.{engine_of}
use Rattle.cg_interp.proofs.StepLemmas.{commands_end, shutdown_stands}
use Rattle.cg_interp.proofs.engine.Engine.end_commands.Goals as goal

pub returns-then-shutdown-clause-ends : goal.returns-then-shutdown-clause-ends
returns-then-shutdown-clause-ends g c = λ next w is none stood.
    let e : State = engine_of c.self.inside.heap c.self.inside.policy c.self.inside.stack c.self.inside.budget c.self.inside.first_budget in
    let new : State = engine_of c.self.inside.heap c.self.inside.policy c.push.new.self c.self.inside.budget c.self.inside.first_budget in
    let stands = subst (λ s. StandsFor c.args.script.now (under (activity_of.Script next) s) w) (sym c.self.view_is) stood in
    commands_end c.args.script.now e next w stands none is true (sym c.shutdown.ensures ∙ c.if-shutdown.true) new turned_of.Quiet
    (refl, shutdown_stands c.args.script.now e next w stands new is refl refl c.push.ensures.top refl)

pub returns-else-shutdown-clause-ends : goal.returns-else-shutdown-clause-ends
returns-else-shutdown-clause-ends g c = λ next w is none stands.
    commands_end c.args.script.now c.args.self.now next w stands none is false (sym c.shutdown.ensures ∙ c.if-shutdown.false) c.args.self.now turned_of.Ended (refl, refl)
