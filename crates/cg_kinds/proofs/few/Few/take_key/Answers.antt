use Rattle.std.proofs.Common.{Some, sym, ap, ◌∙◌}
use Rattle.cg_value.specs.declared.Val.{Val}
use Rattle.cg_kind.proofs.KeyLemmas.{key_found, key_missing}
use Rattle.cg_kinds.proofs.FewLemmas.{key_there}
use Rattle.cg_kinds.proofs.few.Few.take_key.Goals as goal

pub returns-in-Some-clause-entry : goal.returns-in-Some-clause-entry
returns-in-Some-clause-entry c =
    let found = sym c.find.ensures ∙ c.in-Some.is in
    ap (λ (k : Val). Some record { key = k; val = c.take.result.val }) (sym (key_there c.args.self.now c.args.key c.in-Some.at c.take.result found c.take.ensures.entry))
    ∙ sym (key_found _ c.args.key c.in-Some.at _ found c.take.ensures.entry).entry

pub returns-in-Some-clause-rest : goal.returns-in-Some-clause-rest
returns-in-Some-clause-rest c = c.take.ensures.rest ∙ sym (key_found _ c.args.key c.in-Some.at _ (sym c.find.ensures ∙ c.in-Some.is) c.take.ensures.entry).rest

pub returns-in-None-clause-entry : goal.returns-in-None-clause-entry
returns-in-None-clause-entry c = sym (key_missing _ c.args.key (sym c.find.ensures ∙ c.in-None.is)).entry

pub returns-in-None-clause-rest : goal.returns-in-None-clause-rest
returns-in-None-clause-rest c = sym (key_missing _ c.args.key (sym c.find.ensures ∙ c.in-None.is)).rest
