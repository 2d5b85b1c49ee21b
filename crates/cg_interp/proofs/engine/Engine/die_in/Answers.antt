use Rattle.std.proofs.Common.{◌∙◌, ap, ◌∷◌}
use Rattle.cg_interp.specs.declared.activity.Activity.TheVariants as activity_of
use Rattle.cg_interp.specs.Engines.{State, under}
use Rattle.cg_interp.proofs.CallerLemmas.{same_engine}
use Rattle.cg_interp.proofs.engine.Engine.die_in.Goals as goal

pub die-requires-clause-stands : goal.die-requires-clause-stands
die-requires-clause-stands g c =
    let (script, w, stands, sound) = c.requires.stands in (
      script,
      w,
      same_engine script (under (activity_of.Releasing c.args.release) c.args.self.now) _ w stands (ap (λ (e : State). e.store) c.self.view_is) (ap (λ (e : State). e.policy) c.self.view_is)
          (c.push.ensures.top ∙ ap (λ (e : State). activity_of.Releasing c.args.release ∷ e.activities) c.self.view_is) (ap (λ (e : State). e.budget) c.self.view_is),
      sound,
    )

pub returns-clause-begins : goal.returns-clause-begins
returns-clause-begins g c = λ script w stands.
    c.die.ensures.begins script w
    (same_engine script (under (activity_of.Releasing c.args.release) c.args.self.now) _ w stands (ap (λ (e : State). e.store) c.self.view_is) (ap (λ (e : State). e.policy) c.self.view_is)
    (c.push.ensures.top ∙ ap (λ (e : State). activity_of.Releasing c.args.release ∷ e.activities) c.self.view_is) (ap (λ (e : State). e.budget) c.self.view_is))
