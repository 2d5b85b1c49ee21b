use Rattle.std.proofs.Common.{sym, ◌∙◌}
use Rattle.cg_kind.proofs.KeyLemmas.{key_found, key_missing}
use Rattle.cg_kinds.proofs.contents.Contents.value_of.Goals as goal

pub returns-in-Some : goal.returns-in-Some
returns-in-Some g c = sym (key_found _ c.args.key c.in-Some.i _ (sym c.find.ensures ∙ c.in-Some.is) c.entry_at.ensures).value

pub returns-in-None : goal.returns-in-None
returns-in-None g c = sym (key_missing _ c.args.key (sym c.find.ensures ∙ c.in-None.is)).value
