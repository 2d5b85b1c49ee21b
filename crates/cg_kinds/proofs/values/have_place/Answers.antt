use Rattle.std.proofs.Common.{arith}
use Rattle.cg_kinds.specs.Values.{AreColumns}
use Rattle.cg_kinds.proofs.ValueLemmas.{columns-close, values-close}
use Rattle.cg_kinds.proofs.values.have_place.Goals as goal

pub returns-clause-columns : goal.returns-clause-columns
returns-clause-columns c = columns-close _ _ _ _ _ _ _ _ _ _ c.requires.columns c.close_gap.ensures.sorts_capacity c.close_gap.ensures.numbers_capacity _
    c.close_gap.ensures.first c.close_gap.ensures.sorts c.close_gap.ensures.numbers

pub returns-clause-values : goal.returns-clause-values
returns-clause-values c = values-close _ _ _ _ _ _ _ _ _ _ c.requires.columns c.close_gap.ensures.sorts_capacity c.close_gap.ensures.numbers_capacity _
    c.close_gap.ensures.first c.close_gap.ensures.sorts c.close_gap.ensures.numbers

pub returns-clause-in_sorts : goal.returns-clause-in_sorts
returns-clause-in_sorts c =
    let closed : AreColumns _ _ _ _ _ _ = returns-clause-columns c in
    omega (arith, closed.room_for_sorts, c.close_gap.new.sorts.ok.0, c.requires.some)

pub returns-clause-in_numbers : goal.returns-clause-in_numbers
returns-clause-in_numbers c =
    let closed : AreColumns _ _ _ _ _ _ = returns-clause-columns c in
    omega (arith, closed.room_for_numbers, c.close_gap.new.numbers.ok.0, c.requires.some)
