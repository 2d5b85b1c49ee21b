use Rattle.std.proofs.Common.{◌<◌, ◌≡◌, sym, ap, subst, ◌∙◌, ◌++◌, ◌∷◌, [], length, take, get_or, arith, rules}
use Rattle.std.proofs.lemmas.List.{take_more, length-take-le}
use Rattle.cg_script.specs.Items.{IsIndexOf}
use Rattle.cg_script.proofs.Positions.{index_more}
use Rattle.cg_script.proofs.index.Index.of.Goals as goal

pub items-preserved : goal.items-preserved
items-preserved c =
    let e = c.in_ok-add.ensures in
    let all = c.args.items.now in
    let within : c.items.at < length all = c.items-test.true in
    let here : get_or all c.items.at c.index-items-at.result ≡ c.index-items-at.result = search rules in
    subst (λ items. IsIndexOf items c.add.new.self) (sym (take_more all c.items.at c.index-items-at.result within ∙ ap (λ x. take c.items.at all ++ x ∷ []) here))
    (index_more (take c.items.at all) c.index-items-at.result c.items.at c.items.index c.add.new.self
    (sym (length-take-le c.items.at all (omega (arith, within)))) e.classes e.procedures e.commands c.items.invariant)
