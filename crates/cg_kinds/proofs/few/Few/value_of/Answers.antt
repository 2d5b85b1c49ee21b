use Rattle.std.proofs.Common.{Some, sym, ap, ◌∙◌, length, arith}
use Rattle.std.specs.Prelude.{slice_get}
use Rattle.std.proofs.lemmas.Option.{slice_get-get_or}
use Rattle.std.proofs.lemmas.List.Quantifiers.{position-Some}
use Rattle.cg_kind.specs.Calls.{has_key}
use Rattle.cg_kind.proofs.KeyLemmas.{key_found, key_missing}
use Rattle.cg_kinds.proofs.few.Few.value_of.Goals as goal

pub returns-in-Some : goal.returns-in-Some
returns-in-Some c =
    let at = c.in-Some.at in
    let found = sym c.find.ensures ∙ c.in-Some.is in
    let within = (position-Some (has_key c.args.key) c.args.self.now at c.index.result.now found).0 in
    let here = ap (λ l. slice_get l at) (sym c.self.view_is) ∙ slice_get-get_or c.self.inside.pairs.items at _ (omega (arith, within, ap length c.self.view_is)) ∙ ap Some (sym c.index.ensures) in
    ap Some c.val.ensures ∙ sym (key_found c.args.self.now c.args.key at c.index.result.now found here).value

pub returns-in-None : goal.returns-in-None
returns-in-None c = sym (key_missing _ c.args.key (sym c.find.ensures ∙ c.in-None.is)).value
