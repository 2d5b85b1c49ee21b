use Rattle.std.proofs.Common.{◌∙◌, ap, ◌∷◌}
use Rattle.cg_interp.specs.declared.activity.Activity.TheVariants as activity_of
use Rattle.cg_interp.specs.Engines.{State, under}
use Rattle.cg_interp.specs.Callers.{caller_activity}
use Rattle.cg_interp.proofs.CallerLemmas.{same_engine}
use Rattle.cg_interp.proofs.engine.Engine.die_above.Goals as goal

pub die_in-requires-clause-stands : goal.die_in-requires-clause-stands
die_in-requires-clause-stands g c =
    let (script, w, stands, sound) = c.requires.stands in (
      script,
      w,
      same_engine script (under (activity_of.Releasing c.args.release) (under (caller_activity c.args.caller.now) c.args.self.now)) _ w stands
          (ap (λ (e : State). e.store) c.self.view_is) (ap (λ (e : State). e.policy) c.self.view_is)
          (ap (λ l. activity_of.Releasing c.args.release ∷ l) (c.push.ensures.top ∙ ap (λ a. a ∷ c.self.inside.stack.activities) c.activity.ensures
          ∙ ap (λ (e : State). caller_activity c.args.caller.now ∷ e.activities) c.self.view_is)) (ap (λ (e : State). e.budget) c.self.view_is),
      sound,
    )

pub returns-clause-begins : goal.returns-clause-begins
returns-clause-begins g c = λ script w stands.
    c.die_in.ensures.begins script w
    (same_engine script (under (activity_of.Releasing c.args.release) (under (caller_activity c.args.caller.now) c.args.self.now)) _ w stands
    (ap (λ (e : State). e.store) c.self.view_is) (ap (λ (e : State). e.policy) c.self.view_is)
    (ap (λ l. activity_of.Releasing c.args.release ∷ l) (c.push.ensures.top ∙ ap (λ a. a ∷ c.self.inside.stack.activities) c.activity.ensures
    ∙ ap (λ (e : State). caller_activity c.args.caller.now ∷ e.activities) c.self.view_is)) (ap (λ (e : State). e.budget) c.self.view_is))
