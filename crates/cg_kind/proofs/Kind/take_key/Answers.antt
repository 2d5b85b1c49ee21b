use Rattle.std.proofs.Common.{sym, ap, ◌∙◌}
use Rattle.cg_kind.specs.Bodies.{spare_at, with_body}
use Rattle.cg_kind.specs.Calls.{spare_after_leave}
use Rattle.cg_kind.proofs.KeyLemmas.{key_found, key_missing, after_take-key}
use Rattle.cg_kind.proofs.Kind.take_key.Goals as goal

pub returns-in-Some-clause-entry : goal.returns-in-Some-clause-entry
returns-in-Some-clause-entry g c = sym (key_found _ c.args.key c.in-Some.i _ (sym c.find.ensures ∙ c.in-Some.is) c.take.ensures.entry).entry

pub returns-in-Some-clause-rest : goal.returns-in-Some-clause-rest
returns-in-Some-clause-rest g c =
    let bodies = g.Self.Kind.bodies c.args.self.now in
    let kind = g.Self.Kind.kind c.args.self.now in
    c.take.ensures.rest
    ∙ ap (λ es. with_body bodies c.args.at es (spare_after_leave kind (spare_at bodies c.args.at)))
    (after_take-key kind _ c.args.key c.in-Some.i _ (key_found _ c.args.key c.in-Some.i _ (sym c.find.ensures ∙ c.in-Some.is) c.take.ensures.entry))

pub returns-in-None-clause-entry : goal.returns-in-None-clause-entry
returns-in-None-clause-entry g c = sym (key_missing _ c.args.key (sym c.find.ensures ∙ c.in-None.is)).entry
