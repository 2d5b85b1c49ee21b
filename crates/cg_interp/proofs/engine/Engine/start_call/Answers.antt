use Rattle.std.proofs.Common.{sym, subst, ap, ◌∙◌, ◌∷◌, Some, refl}
use Rattle.cg_machine.specs.declared.event.FrameSort.TheVariants as sort_of
use Rattle.cg_machine.specs.Frame.{start_frame}
use Rattle.cg_represents.specs.Represents.{Represents}
use Rattle.cg_interp.specs.Engines.{StandsFor, under}
use Rattle.cg_interp.specs.Callers.{caller_activity}
use Rattle.cg_interp.specs.Turns.{Makes, entered}
use Rattle.cg_interp.proofs.CallerLemmas.{same_engine}
use Rattle.cg_interp.proofs.engine.Engine.start_call.Goals as goal

pub returns-clause-calls : goal.returns-clause-calls
returns-clause-calls g c =
    λ script w stands.
    subst (λ p. Makes script (start_frame script (record { sort = sort_of.Call; proc = p; subject = c.args.function; func = Some c.args.function }) w)
    c.enters.new.self (entered sort_of.Call c.args.function c.enters.result))
    (sym (c.procedure_of-proc.ensures w (subst (λ e. Represents e.store w) (sym c.self.view_is) stands.represents)))
    (c.enters.ensures.starts script w (same_engine script _ _ w (subst (λ e. StandsFor script (under (caller_activity c.args.caller.now) e) w)
    (sym c.self.view_is) stands) refl refl (c.push.ensures.top ∙ ap (λ a. a ∷ c.self.inside.stack.activities) c.activity.ensures) refl))
