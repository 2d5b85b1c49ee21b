use Rattle.std.proofs.Common.{sym, ap, ◌∙◌, get_or}
use Rattle.std.specs.Str.{bytes_eq}
use Rattle.std.proofs.lemmas.List.{get_or_default}
use Rattle.cg_script.specs.declared.form.Form.{Form}
use Rattle.cg_script.specs.declared.form.Form.TheVariants.{MakeList}
use Rattle.cg_script.specs.Forms.{word_of}
use Rattle.cg_script.proofs.Tables.{named_more, named_found, named_nowhere}
use Rattle.cg_script.proofs.form.form_with.Goals as goal

pub returns-then-eq : goal.returns-then-eq
returns-then-eq c =
    let form = get_or c.args.forms.now c.forms.form-index MakeList in
    named_found (λ (f : Form). (word_of f, f)) c.args.word.now c.args.forms.now c.forms.form-index form c.forms-test.true
    (get_or_default c.args.forms.now c.forms.form-index MakeList form c.forms-test.true)
    (sym (ap (bytes_eq c.args.word.now) c.word_of.ensures) ∙ sym c.eq.ensures ∙ c.if-eq.true) _ c.forms.invariant

pub forms-preserved : goal.forms-preserved
forms-preserved c =
    let form = get_or c.args.forms.now c.forms.form-index MakeList in
    named_more (λ (f : Form). (word_of f, f)) c.args.word.now c.args.forms.now c.forms.form-index form c.forms-test.true
    (get_or_default c.args.forms.now c.forms.form-index MakeList form c.forms-test.true)
    (sym (ap (bytes_eq c.args.word.now) c.word_of.ensures) ∙ sym c.eq.ensures ∙ c.if-eq.false) _ c.forms.invariant

pub returns : goal.returns
returns c = named_nowhere (λ (f : Form). (word_of f, f)) c.args.word.now c.args.forms.now c.forms.form-index c.forms-test.false _ c.forms.invariant
