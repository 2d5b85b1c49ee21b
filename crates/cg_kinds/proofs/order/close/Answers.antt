use Rattle.std.proofs.Common.{ap, sym, length, arith, subst}
use Rattle.std.proofs.lemmas.List.{with_items_is}
use Rattle.cg_kinds.specs.Order.{indexes, AreHomes}
use Rattle.cg_kinds.proofs.SlotLemmas.{few_pairs}
use Rattle.cg_kinds.proofs.OrderLemmas.{length-closed, closed_counts, same_order}
use Rattle.cg_kinds.proofs.order.close.Goals as goal

pub settle-requires-clause-small : goal.settle-requires-clause-small
settle-requires-clause-small c =
    let items = c.args.slots.now.items in
    let long = length-closed items c.close_gaps.new.slots.items c.close_gaps.ensures.items in
    omega (arith, long, few_pairs items, c.requires.counts.small, ap length c.as_slice.ensures.value)

pub deal-requires : goal.deal-requires
deal-requires c =
    let items = c.args.slots.now.items in
    let long = length-closed items c.close_gaps.new.slots.items c.close_gaps.ensures.items in
    omega (arith, long, few_pairs items, c.requires.counts.small, c.len.ensures)

pub returns-clause-same : goal.returns-clause-same
returns-clause-same c = same_order c.args.slots.now.items c.close_gaps.new.slots.items c.close_gaps.ensures.items

pub returns-clause-homes : goal.returns-clause-homes
returns-clause-homes c =
    let homes_are = with_items_is c.args.homes.now c.settle.new.homes (omega (arith, c.settle.auto.homes, c.as_mut_slice.ensures.len)) in
    subst (AreHomes c.close_gaps.new.slots.items) (sym homes_are) (subst (λ l. AreHomes l c.settle.new.homes) c.as_slice.ensures.value c.settle.ensures)

pub returns-clause-counts : goal.returns-clause-counts
returns-clause-counts c =
    let items = c.args.slots.now.items in
    let now = c.close_gaps.new.slots.items in
    let are = c.requires.counts in
    let long = length-closed items now c.close_gaps.ensures.items in
    closed_counts (indexes items) now c.deal.new.self c.close_gaps.ensures.items (λ block within. omega (arith, c.deal.ensures.each block within, c.len.ensures))
    (omega (arith, c.deal.ensures.long, are.covered, long, few_pairs items)) (omega (arith, long, few_pairs items, are.small))
