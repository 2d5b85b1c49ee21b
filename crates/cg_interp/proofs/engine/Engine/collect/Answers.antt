use Rattle.std.proofs.Common.{◌≡◌, ◌∙◌, sym, ap, subst, refl, false, ◌∷◌}
use Rattle.cg_interp.specs.declared.activity.Activity.TheVariants as activity
use Rattle.cg_interp.specs.Engines.{State, StandsFor, under}
use Rattle.cg_interp.proofs.CollectMoves.{engine_of}
use Rattle.cg_interp.proofs.CollectBegins.{IsAtStart, starts_small, starts_clear, begins}
use Rattle.cg_interp.proofs.engine.Engine.collect.Goals as goal

pub begin-collection-requires-clause-bounded : goal.begin-collection-requires-clause-bounded
begin-collection-requires-clause-bounded g c =
    let e : State = engine_of c.self.inside.heap c.self.inside.policy c.self.inside.stack c.self.inside.budget c.self.inside.first_budget in
    starts_small c.args.asked c.args.generation c.args.top e (subst (λ e. IsAtStart c.args.asked c.args.generation c.args.top e) (sym c.self.view_is) c.requires.stands)

pub begin-collection-requires-clause-clear : goal.begin-collection-requires-clause-clear
begin-collection-requires-clause-clear g c =
    let e : State = engine_of c.self.inside.heap c.self.inside.policy c.self.inside.stack c.self.inside.budget c.self.inside.first_budget in
    starts_clear c.args.asked c.args.generation c.args.top e (subst (λ e. IsAtStart c.args.asked c.args.generation c.args.top e) (sym c.self.view_is) c.requires.stands) c.sound.ensures

pub returns-clause-begins : goal.returns-clause-begins
returns-clause-begins g c = λ script w stood.
    let e : State = engine_of c.self.inside.heap c.self.inside.policy c.self.inside.stack c.self.inside.budget c.self.inside.first_budget in
    let new : State = engine_of c.begin-collection.new.heap c.begin-collection.new.policy c.push-2.new.self c.self.inside.budget c.self.inside.first_budget in
    let stands = subst (λ s. StandsFor script (under c.args.top s) w) (sym c.self.view_is) stood in
    let idle = subst (λ (s : State). s.policy.running ≡ false) (sym c.self.view_is) c.requires.idle in
    begins script c.args.asked c.args.generation c.args.top e w stands c.begin-collection.result new idle
    (c.push-2.ensures.top ∙ ap (λ l. activity.Collecting c.args.asked c.begin-collection.result ∷ l) c.push.ensures.top) refl
    (c.begin-collection.ensures.begins c.args.asked w stands.represents stands.numbers) (c.begin-collection.ensures.ready script)
