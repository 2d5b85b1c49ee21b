use Rattle.std.proofs.Common.{◌∙◌, ap, sym}
use Rattle.cg_kinds.specs.Order.{pairs_before}
use Rattle.cg_kinds.proofs.OrderLemmas.{taken_facts}
use Rattle.cg_kinds.proofs.order.Order.take.Goals as goal

pub returns-clause-index : goal.returns-clause-index
returns-clause-index c = (taken_facts c.self.inside.slots.items c.self.inside.homes.items c.self.invariant.0 c.slot_of-slot.result c.take_slot-index.result c.args.i c.args.self.now
    c.take_slot-index.ensures.index c.self.view_is (ap (λ l. pairs_before l c.slot_of-slot.result) (sym c.as_slice.ensures.value) ∙ c.slot_of-slot.ensures.before)).0

pub returns-clause-others : goal.returns-clause-others
returns-clause-others c = (taken_facts c.self.inside.slots.items c.self.inside.homes.items c.self.invariant.0 c.slot_of-slot.result c.take_slot-index.result c.args.i c.args.self.now
    c.take_slot-index.ensures.index c.self.view_is (ap (λ l. pairs_before l c.slot_of-slot.result) (sym c.as_slice.ensures.value) ∙ c.slot_of-slot.ensures.before)).1.0
