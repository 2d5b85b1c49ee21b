use Rattle.std.proofs.Common.{sym, subst, ap, ◌∙◌, ◌∷◌, refl}
use Rattle.cg_interp.specs.Engines.{StandsFor, under}
use Rattle.cg_interp.specs.Callers.{caller_activity}
use Rattle.cg_interp.proofs.CallerLemmas.{stops_frame}
use Rattle.cg_interp.proofs.engine.Engine.stop_frame.Goals as goal

pub returns-clause-stops : goal.returns-clause-stops
returns-clause-stops g c =
    λ script w stands. stops_frame script _ _ w c.args.caller.now (subst (λ e. StandsFor script (under (caller_activity c.args.caller.now) e) w)
    (sym c.self.view_is) stands) refl refl (c.push.ensures.top ∙ ap (λ a. a ∷ c.self.inside.stack.activities) (c.activity.ensures
    ∙ ap caller_activity c.stopped_frame.ensures)) refl
