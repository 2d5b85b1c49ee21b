use Rattle.std.proofs.Common.{◌∙◌, ◌++◌, ◌∷◌, [], ap, arith, drop}
use Rattle.std.proofs.lemmas.List.{drop-append-le}
use Rattle.cg_kinds.specs.Values.{values_in, value_in}
use Rattle.cg_kinds.proofs.ValueLemmas.{columns-push, values-push, length-sorts}
use Rattle.cg_kinds.proofs.values.Values.push_reserved.Goals as goal

pub invariant_of-self : goal.invariant_of-self
invariant_of-self c =
    columns-push _ _ _ _ _ _ _ _ _ _ c.have_place.ensures.columns c.push_reserved.ensures.capacity c.push_reserved-2.ensures.capacity _ _
    (omega (arith, c.requires, ap (λ kept. kept.room) c.self.view_is)) c.words_of-sort.ensures.words c.push_reserved.ensures.items c.push_reserved-2.ensures.items

pub returns-clause-items : goal.returns-clause-items
returns-clause-items c =
    let columns = c.have_place.ensures.columns in
    let sorts = c.have_place.new.sorts.items in
    let numbers = c.have_place.new.numbers.items in
    let first = c.have_place.new.first in
    let sort = c.words_of-sort.result.0 in
    let number = c.words_of-sort.result.1 in
    ap (drop first) ((λ j. values_in (c.push_reserved.ensures.items j) (c.push_reserved-2.ensures.items j)) ∙ values-push sorts numbers sort number columns.words)
    ∙ drop-append-le first (values_in sorts numbers) (value_in sort number ∷ []) (omega (arith, columns.within, length-sorts sorts numbers columns.words))
    ∙ λ j. (c.have_place.ensures.values ∙ ap (λ kept. kept.items) c.self.view_is) j ++ c.words_of-sort.ensures.value j ∷ []
