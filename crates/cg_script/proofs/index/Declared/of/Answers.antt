use Rattle.std.proofs.Common.{◌<◌, ◌≡◌, sym, ap, subst, ◌∙◌, ◌++◌, ◌∷◌, [], length, take, get_or, rules}
use Rattle.std.proofs.lemmas.List.{take_more}
use Rattle.cg_script.specs.Items.{AreDeclared}
use Rattle.cg_script.proofs.Positions.{declared_more}
use Rattle.cg_script.proofs.index.Declared.of.Goals as goal

pub items-preserved : goal.items-preserved
items-preserved c =
    let e = c.add.ensures in
    let all = c.args.items.now in
    let within : c.items.at < length all = c.items-test.true in
    let here : get_or all c.items.at c.index-items-at.result ≡ c.index-items-at.result = search rules in
    subst (λ items. AreDeclared items c.add.new.self) (sym (take_more all c.items.at c.index-items-at.result within ∙ ap (λ x. take c.items.at all ++ x ∷ []) here))
    (declared_more (take c.items.at all) c.index-items-at.result c.items.declared c.add.new.self e.profile e.budget e.shutdown c.items.invariant)
