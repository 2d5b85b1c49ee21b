use Rattle.std.proofs.Common.{◌∙◌, None, ap, length, set, arith}
use Rattle.std.proofs.lemmas.List.{with_items_is}
use Rattle.cg_kinds.specs.Order.{pairs_before}
use Rattle.cg_kinds.proofs.SlotLemmas.{pair_of, block_there, block_some, lowered_counts}
use Rattle.cg_kinds.proofs.order.take_slot.Goals as goal

pub lower-requires-clause-some : goal.lower-requires-clause-some
lower-requires-clause-some c =
    let slots = c.args.slots.now.items in
    let counts = c.args.counts.now in
    let there = pair_of slots c.args.slot c.requires.there in
    block_some slots counts c.requires.counts c.args.slot there.index there.is (block_there slots counts c.requires.counts c.args.slot there.within)

pub returns-clause-counts : goal.returns-clause-counts
returns-clause-counts c =
    let slots = c.args.slots.now.items in
    let counts = c.args.counts.now in
    let there = pair_of slots c.args.slot c.requires.there in
    let is = with_items_is c.args.slots.now c.empty_slot.new.slots (omega (arith, c.empty_slot.ensures.long, c.as_mut_slice.ensures.len)) in
    lowered_counts slots counts c.requires.counts c.args.slot there.index there.is (block_there slots counts c.requires.counts c.args.slot there.within) _ c.lower.new.self
    (λ k. ap (λ l. pairs_before l k) is ∙ c.empty_slot.ensures.gap k ∙ ap (λ l. pairs_before (set l c.args.slot None) k) c.as_mut_slice.ensures.value)
    (ap length is ∙ c.empty_slot.ensures.long ∙ ap length c.as_mut_slice.ensures.value)
    c.lower.ensures
