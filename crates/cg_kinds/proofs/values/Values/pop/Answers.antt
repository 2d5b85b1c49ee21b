use Rattle.std.proofs.Common.{◌∙◌, ◌++◌, ◌∷◌, [], ap, sym, drop, arith}
use Rattle.cg_kinds.specs.Values.{values_in}
use Rattle.cg_kinds.proofs.ValueLemmas.{sorts-len, columns-pop, words-last, values-pop}
use Rattle.cg_kinds.proofs.values.Values.pop.Goals as goal

pub val_of-requires : goal.val_of-requires
val_of-requires c = words-last _ _ _ _ _ _ _ _ _ _ c.self.invariant c.take_last-sort.ensures.capacity c.take_last-number.ensures.capacity _ _
    (omega (arith, c.len.ensures, c.self.inside.sorts.ok.0, sorts-len c.self.inside _ c.self.view_is c.self.invariant)) c.take_last-sort.ensures.items c.take_last-number.ensures.items

pub invariant_of-self : goal.invariant_of-self
invariant_of-self c = columns-pop _ _ _ _ _ _ _ _ _ _ c.self.invariant c.take_last-sort.ensures.capacity c.take_last-number.ensures.capacity _ _
    (omega (arith, c.len.ensures, c.self.inside.sorts.ok.0, sorts-len c.self.inside _ c.self.view_is c.self.invariant)) c.take_last-sort.ensures.items c.take_last-number.ensures.items

pub returns-clause-items : goal.returns-clause-items
returns-clause-items c =
    sym (ap (λ kept. kept.items) c.self.view_is)
    ∙ values-pop _ _ _ _ _ _ _ _ _ _ c.self.invariant c.take_last-sort.ensures.capacity c.take_last-number.ensures.capacity _ _
    (omega (arith, c.len.ensures, c.self.inside.sorts.ok.0, sorts-len c.self.inside _ c.self.view_is c.self.invariant)) c.take_last-sort.ensures.items
    c.take_last-number.ensures.items
    ∙ ap (λ val. drop c.self.inside.first (values_in c.take_last-sort.new.self.items c.take_last-number.new.self.items) ++ val ∷ []) (sym c.val_of.ensures)
