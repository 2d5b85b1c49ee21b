use Rattle.std.proofs.Common.{◌∙◌, ap, ◌∷◌, Some, arith}
use Rattle.cg_interp.specs.declared.activity.Activity.TheVariants.{Script}
use Rattle.cg_interp.proofs.FirstEngine.{opening_stands, opening_fit}
use Rattle.cg_interp.proofs.engine.Engine.new.Goals as goal

pub returns-clause-stands : goal.returns-clause-stands
returns-clause-stands g c = opening_stands c.args.script.now _ c.requires.heap (c.push.ensures.top ∙ ap (λ l. Script (Some 0) ∷ l) c.in_ok-stack.ensures.empty) c.new-2.ensures

pub returns-clause-fit : goal.returns-clause-fit
returns-clause-fit g c =
    opening_fit c.args.script.now _ c.requires.heap (c.push.ensures.top ∙ ap (λ l. Script (Some 0) ∷ l) c.in_ok-stack.ensures.empty) c.requires.budget
    (omega (arith, c.push.ensures.room, c.in_ok-stack.ensures.room))
