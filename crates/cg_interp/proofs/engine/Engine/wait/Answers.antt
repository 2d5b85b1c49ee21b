use Rattle.std.proofs.Common.{sym, subst, ap, ◌∙◌, ◌∷◌, refl}
use Rattle.cg_interp.specs.Engines.{StandsFor, under}
use Rattle.cg_interp.specs.Callers.{caller_activity}
use Rattle.cg_interp.proofs.CallerLemmas.{same_engine}
use Rattle.cg_interp.proofs.engine.Engine.wait.Goals as goal

pub returns-clause-waits : goal.returns-clause-waits
returns-clause-waits g c =
    λ script w stands. same_engine script _ _ w (subst (λ e. StandsFor script (under (caller_activity c.args.caller.now) e) w) (sym c.self.view_is) stands) refl
    refl (c.push.ensures.top ∙ ap (λ a. a ∷ c.self.inside.stack.activities) c.activity.ensures) refl
