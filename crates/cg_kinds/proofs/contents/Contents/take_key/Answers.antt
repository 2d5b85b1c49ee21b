use Rattle.std.proofs.Common.{sym, ap, ◌∙◌}
use Rattle.cg_kind.specs.Bodies.{body_of}
use Rattle.cg_kind.specs.Calls.{spare_after_leave}
use Rattle.cg_kind.proofs.KeyLemmas.{key_found, key_missing, after_take-key}
use Rattle.cg_kinds.proofs.contents.Contents.take_key.Goals as goal

pub returns-in-Some-clause-entry : goal.returns-in-Some-clause-entry
returns-in-Some-clause-entry g c = sym (key_found _ c.args.key c.in-Some.i _ (sym c.find.ensures ∙ c.in-Some.is) c.take.ensures.entry).entry

pub returns-in-Some-clause-rest : goal.returns-in-Some-clause-rest
returns-in-Some-clause-rest g c =
    let kind = g.Self.Contents.kind in
    c.take.ensures.rest
    ∙ ap (λ es. body_of es (spare_after_leave kind (g.Self.Contents.body c.args.self.now).spare))
    (after_take-key kind _ c.args.key c.in-Some.i _ (key_found _ c.args.key c.in-Some.i _ (sym c.find.ensures ∙ c.in-Some.is) c.take.ensures.entry))

pub returns-in-None-clause-entry : goal.returns-in-None-clause-entry
returns-in-None-clause-entry g c = sym (key_missing _ c.args.key (sym c.find.ensures ∙ c.in-None.is)).entry
