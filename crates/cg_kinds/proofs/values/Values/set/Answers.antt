use Rattle.std.proofs.Common.{◌∙◌, ◌+◌, ap, set, drop, refl, arith}
use Rattle.std.proofs.lemmas.List.{drop-set-add}
use Rattle.cg_kinds.specs.Values.{values_in, value_in}
use Rattle.cg_kinds.proofs.ValueLemmas.{sorts-len, numbers-len, columns-set, values-set}
use Rattle.cg_kinds.proofs.values.Values.set.Goals as goal

pub overflow_add-at : goal.overflow_add-at
overflow_add-at c = omega (arith, c.requires, c.self.inside.numbers.ok.1, c.self.inside.numbers.small, numbers-len c.self.inside _ c.self.view_is c.self.invariant)

pub index_mut-requires : goal.index_mut-requires
index_mut-requires c = omega (arith, c.requires, sorts-len c.self.inside _ c.self.view_is c.self.invariant)

pub index_mut-requires-2 : goal.index_mut-requires-2
index_mut-requires-2 c = omega (arith, c.requires, numbers-len c.self.inside _ c.self.view_is c.self.invariant)

pub invariant_of-self : goal.invariant_of-self
invariant_of-self c = columns-set c.self.inside.sorts.items c.self.inside.numbers.items _ _ _ _ _ _ _ _ c.self.invariant refl refl
    (c.self.inside.first + c.args.i) _ _ c.words_of-sort.ensures.words refl refl

pub returns-clause-items : goal.returns-clause-items
returns-clause-items c =
    let sorts = c.self.inside.sorts.items in
    let numbers = c.self.inside.numbers.items in
    let first = c.self.inside.first in
    let sort = c.words_of-sort.result.0 in
    let number = c.words_of-sort.result.1 in
    ap (drop first) (values-set sorts numbers (first + c.args.i) sort number)
    ∙ drop-set-add first (values_in sorts numbers) c.args.i (value_in sort number)
    ∙ λ j. set (ap (λ kept. kept.items) c.self.view_is j) c.args.i (c.words_of-sort.ensures.value j)
