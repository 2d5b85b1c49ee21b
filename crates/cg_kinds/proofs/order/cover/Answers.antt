use Rattle.std.proofs.Common.{arith}
use Rattle.cg_kinds.proofs.SlotLemmas.{counts_all, few_pairs}
use Rattle.cg_kinds.proofs.order.cover.Goals as goal

pub push-requires : goal.push-requires
push-requires c =
    let slots = c.args.slots.now.items in
    let are = c.pushes.invariant.0 in
    omega (arith, counts_all slots c.pushes.counts are, few_pairs slots, are.small)
