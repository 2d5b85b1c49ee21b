use Rattle.std.proofs.Common.{◌∙◌, ◌+◌, ap, sym, Some, remove, drop, refl, arith}
use Rattle.cg_kinds.proofs.ValueLemmas.{sorts-len, numbers-len, words-here, value-here, columns-remove, values-remove, drop-remove}
use Rattle.cg_kinds.specs.Values.{values_in}
use Rattle.cg_kinds.proofs.values.Values.remove.Goals as goal

pub overflow_add-at : goal.overflow_add-at
overflow_add-at c = omega (arith, c.requires, c.self.inside.numbers.ok.1, c.self.inside.numbers.small, numbers-len c.self.inside _ c.self.view_is c.self.invariant)

pub remove-sort-requires : goal.remove-sort-requires
remove-sort-requires c = omega (arith, c.requires, sorts-len c.self.inside _ c.self.view_is c.self.invariant)

pub remove-number-requires : goal.remove-number-requires
remove-number-requires c = omega (arith, c.requires, numbers-len c.self.inside _ c.self.view_is c.self.invariant)

pub val_of-requires : goal.val_of-requires
val_of-requires c =
    words-here c.self.inside _ c.self.view_is c.self.invariant c.args.i _ _ c.requires c.remove-sort.ensures.value c.remove-number.ensures.value

pub invariant_of-self : goal.invariant_of-self
invariant_of-self c =
    let sorts = c.self.inside.sorts in
    let numbers = c.self.inside.numbers in
    let first = c.self.inside.first in
    columns-remove sorts.items numbers.items _ _ _ _ _ _ _ _ c.self.invariant c.remove-sort.ensures.capacity c.remove-number.ensures.capacity (first + c.args.i) (omega arith)
    (omega (arith, c.requires, sorts.ok.0, sorts-len c.self.inside _ c.self.view_is c.self.invariant))
    (omega (arith, c.requires, numbers.ok.0, numbers-len c.self.inside _ c.self.view_is c.self.invariant))
    c.remove-sort.ensures.items c.remove-number.ensures.items

pub returns-clause-val : goal.returns-clause-val
returns-clause-val c =
    value-here c.self.inside _ c.self.view_is c.self.invariant c.args.i _ _ c.requires c.remove-sort.ensures.value c.remove-number.ensures.value
    ∙ ap Some (sym c.val_of.ensures)

pub returns-clause-items : goal.returns-clause-items
returns-clause-items c =
    let sorts = c.self.inside.sorts in
    let numbers = c.self.inside.numbers in
    let first = c.self.inside.first in
    let items = ap (λ kept. kept.items) c.self.view_is in
    ap (drop first) ((λ j. values_in (c.remove-sort.ensures.items j) (c.remove-number.ensures.items j)) ∙ values-remove sorts.items numbers.items (first + c.args.i) c.self.invariant.words)
    ∙ drop-remove first (values_in sorts.items numbers.items) c.args.i (first + c.args.i) refl
    ∙ ap (λ xs. remove xs c.args.i) items
