use Rattle.std.proofs.Common.{sym, ap, ◌∙◌}
use Rattle.std.proofs.lemmas.Result.{on_ok_weaker}
use Rattle.cg_script.specs.Parts.{with_text_if}
use Rattle.cg_script.proofs.ReadWords.{number_read, name_value, name_text}
use Rattle.cg_script.proofs.part.read_value.Goals as goal

pub returns-then-begins_as_name-clause-texts : goal.returns-then-begins_as_name-clause-texts
returns-then-begins_as_name-clause-texts c =
    let no_atom = sym c.atom.ensures ∙ c.in_default-atom.is in
    let unquoted = sym c.is_quoted_word.ensures ∙ c.if-is_quoted_word.false in
    let begins = sym c.begins_as_name.ensures ∙ c.if-begins_as_name.true in
    on_ok_weaker c.read_name.result (λ f e. f (sym (name_value c.args.word.now no_atom unquoted begins) ∙ e) ∙ ap (with_text_if c.args.names.now)
    (sym (name_text c.args.word.now no_atom unquoted begins)))
    c.read_name.ensures.texts

pub returns-clause-operand : goal.returns-clause-operand
returns-clause-operand c = number_read c.args.word.now c.args.names.now c.read_whole.result (sym c.atom.ensures ∙ c.in_default-atom.is) (sym c.is_quoted_word.ensures ∙ c.if-is_quoted_word.false)
    (sym c.begins_as_name.ensures ∙ c.if-begins_as_name.false) c.read_whole.ensures
