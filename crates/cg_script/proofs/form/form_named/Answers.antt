use Rattle.std.proofs.Common.{None, ap, ◌∙◌, arith}
use Rattle.std.proofs.lemmas.Bool.Decides.{nat_tests}
use Rattle.cg_script.specs.declared.form.Form.{Form}
use Rattle.cg_script.specs.Tables.{named}
use Rattle.cg_script.specs.Forms.{word_of, by_words}
use Rattle.cg_script.proofs.RowsByLength.{none_alike}
use Rattle.cg_script.proofs.Found.{named_from_like}
use Rattle.cg_script.proofs.form.form_named.Goals as goal

pub returns-then-is_empty : goal.returns-then-is_empty
returns-then-is_empty c = named_from_like c.args.word.now None
    (none_alike (λ (form : Form). (word_of form, form)) c.forms_like-forms.result.now c.args.word.now (grind (arith, nat_tests, c.if-is_empty.true, c.is_empty.ensures))
    ∙ ap (λ fs. named (by_words fs) c.args.word.now) c.forms_like-forms.ensures)

pub returns : goal.returns
returns c = named_from_like c.args.word.now c.form_with.result (c.form_with.ensures ∙ ap (λ fs. named (by_words fs) c.args.word.now) c.forms_like-forms.ensures)
