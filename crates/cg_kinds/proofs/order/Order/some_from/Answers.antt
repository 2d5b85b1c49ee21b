use Rattle.std.proofs.Common.{◌≡◌, ◌∙◌, ap, sym, drop, take}
use Rattle.cg_kind.specs.declared.notes.TheConstants.{AT_ONCE}
use Rattle.cg_kinds.specs.Order.{indexes, pairs_before}
use Rattle.cg_kinds.proofs.SlotLemmas.{indexes_behind}
use Rattle.cg_kinds.proofs.OrderLemmas.{sound_order, some_within}
use Rattle.cg_kinds.proofs.order.Order.some_from.Goals as goal

pub returns-then-i-len-clause-indexes : goal.returns-then-i-len-clause-indexes
returns-then-i-len-clause-indexes c =
    let items = c.self.inside.slots.items in
    let slot = c.slot_of-slot.result in
    let before : pairs_before items slot ≡ c.args.i = ap (λ l. pairs_before l slot) (sym c.as_slice.ensures.value) ∙ c.slot_of-slot.ensures.before in
    c.some_indexes.ensures
    ∙ ap (λ l. take AT_ONCE (indexes (drop slot l))) c.as_slice-then-i-len.ensures.value
    ∙ ap (take AT_ONCE) (indexes_behind items slot c.args.i before)
    ∙ ap (λ l. take AT_ONCE (drop c.args.i l)) c.self.view_is

pub returns-then-i-len-clause-within : goal.returns-then-i-len-clause-within
returns-then-i-len-clause-within c =
    some_within c.args.self.now c.args.i c.some_indexes.result.items (returns-then-i-len-clause-indexes c)
    (sound_order c.self.inside.slots.items c.self.inside.homes.items c.self.invariant.0 c.args.self.now c.self.view_is)
