use Rattle.std.proofs.Common.{◌∙◌, ap, sym, Some, arith}
use Rattle.cg_kinds.proofs.ValueLemmas.{sorts-len, numbers-len, words-here, value-here}
use Rattle.cg_kinds.proofs.values.Values.val.Goals as goal

pub overflow_add-at : goal.overflow_add-at
overflow_add-at c = omega (arith, c.requires, c.self.inside.numbers.ok.1, c.self.inside.numbers.small, numbers-len c.self.inside _ c.self.view_is c.self.invariant)

pub index-requires : goal.index-requires
index-requires c = omega (arith, c.requires, sorts-len c.self.inside _ c.self.view_is c.self.invariant)

pub index-requires-2 : goal.index-requires-2
index-requires-2 c = omega (arith, c.requires, numbers-len c.self.inside _ c.self.view_is c.self.invariant)

pub val_of-requires : goal.val_of-requires
val_of-requires c =
    words-here c.self.inside _ c.self.view_is c.self.invariant c.args.i _ _ c.requires c.index.ensures c.index-2.ensures

pub returns : goal.returns
returns c =
    value-here c.self.inside _ c.self.view_is c.self.invariant c.args.i _ _ c.requires c.index.ensures c.index-2.ensures
    ∙ ap Some (sym c.val_of.ensures)
