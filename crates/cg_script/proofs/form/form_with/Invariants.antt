use Rattle.std.proofs.Common.{◌≡◌, drop}
use Rattle.cg_script.specs.Tables.{named}
use Rattle.cg_script.specs.Forms.{by_words}
use Rattle.cg_script.proofs.form.form_with.Given as goal

-- no form before this one has the word
abbrev pub invariant-forms : goal.invariant-forms
invariant-forms l = named (by_words (drop l.form-index l.forms)) l.word ≡ named (by_words l.forms) l.word
