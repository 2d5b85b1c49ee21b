use Rattle.std.proofs.Common.{◌∙◌, sym, ap, subst}
use Rattle.cg_interp.specs.Engines.{StandsFor, under}
use Rattle.cg_interp.specs.Callers.{caller_activity}
use Rattle.cg_interp.proofs.engine.Engine.collect_first.Goals as goal

pub collect-requires-clause-stands : goal.collect-requires-clause-stands
collect-requires-clause-stands g c =
    let (script, spelled, fit, w, stands, kept) = c.requires.stands in
    (script, spelled, fit, w, subst (λ a. StandsFor script (under a c.args.self.now) w) (sym (c.activity.ensures ∙ ap caller_activity c.with_next.ensures)) stands, kept)

pub returns-clause-begins : goal.returns-clause-begins
returns-clause-begins g c = λ script w stands.
    c.collect.ensures.begins script w (subst (λ a. StandsFor script (under a c.args.self.now) w) (sym (c.activity.ensures ∙ ap caller_activity c.with_next.ensures)) stands)
