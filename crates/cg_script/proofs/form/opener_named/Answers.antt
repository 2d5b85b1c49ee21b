use Rattle.std.proofs.Common.{sym, ap, ◌∙◌, cond, not, Some, None}
use Rattle.cg_script.specs.declared.form.Form.{Form}
use Rattle.cg_script.proofs.Found.{opener_kept}
use Rattle.cg_script.proofs.form.opener_named.Goals as goal

pub returns-then-binds : goal.returns-then-binds
returns-then-binds c =
    let form : Form = c.in-Some.form in
    sym (ap (λ b. cond (not b) (Some form) None) (sym c.binds.ensures ∙ c.if-binds.true)) ∙ opener_kept c.args.word.now (Some form) c.in-Some.ensures

pub returns-else-binds : goal.returns-else-binds
returns-else-binds c =
    let form : Form = c.in-Some.form in
    sym (ap (λ b. cond (not b) (Some form) None) (sym c.binds.ensures ∙ c.if-binds.false)) ∙ opener_kept c.args.word.now (Some form) c.in-Some.ensures

pub returns-in-None : goal.returns-in-None
returns-in-None c = opener_kept c.args.word.now None c.in-None.ensures
