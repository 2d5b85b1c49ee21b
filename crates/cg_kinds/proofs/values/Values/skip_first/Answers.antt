use Rattle.std.proofs.Common.{◌∙◌, ap, remove, refl, arith}
use Rattle.cg_kinds.proofs.ValueLemmas.{sorts-len, columns-skip, drop-one_more}
use Rattle.cg_kinds.specs.Values.{values_in}
use Rattle.cg_kinds.proofs.values.Values.skip_first.Goals as goal

pub invariant_of-self : goal.invariant_of-self
invariant_of-self c =
    let sorts = c.self.inside.sorts in
    let numbers = c.self.inside.numbers in
    columns-skip sorts.items numbers.items _ _ _ _ _ _ _ _ c.self.invariant refl refl
    (omega (arith, c.requires, sorts.ok.0, sorts-len c.self.inside _ c.self.view_is c.self.invariant)) refl refl

pub returns-clause-items : goal.returns-clause-items
returns-clause-items c =
    drop-one_more c.self.inside.first (values_in c.self.inside.sorts.items c.self.inside.numbers.items) _ refl
    ∙ ap (λ xs. remove xs 0) (ap (λ kept. kept.items) c.self.view_is)
