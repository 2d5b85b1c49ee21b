use Rattle.std.proofs.Common.{◌∙◌}
use Rattle.cg_kinds.proofs.ValueLemmas.{columns-close, values-close}
use Rattle.cg_kinds.proofs.values.Values.close.Goals as goal

pub invariant_of-self : goal.invariant_of-self
invariant_of-self c = columns-close c.self.inside.sorts.items c.self.inside.numbers.items _ _ _ _ _ _ _ _ c.self.invariant c.close_gap.ensures.sorts_capacity
    c.close_gap.ensures.numbers_capacity _ c.close_gap.ensures.first c.close_gap.ensures.sorts c.close_gap.ensures.numbers

pub returns : goal.returns
returns c =
    (λ j. record {
      items = values-close c.self.inside.sorts.items c.self.inside.numbers.items _ _ _ _ _ _ _ _ c.self.invariant c.close_gap.ensures.sorts_capacity
          c.close_gap.ensures.numbers_capacity _ c.close_gap.ensures.first c.close_gap.ensures.sorts c.close_gap.ensures.numbers j;
      room = c.self.inside.room;
    })
    ∙ c.self.view_is
