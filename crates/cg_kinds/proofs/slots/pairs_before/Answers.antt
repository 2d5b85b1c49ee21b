use Rattle.std.proofs.Common.{arith}
use Rattle.std.proofs.lemmas.Int.{ints}
use Rattle.cg_kinds.proofs.SlotLemmas.{block_and_rest, counts_all, few_before, few_pairs}
use Rattle.cg_kinds.proofs.slots.pairs_before.Goals as goal

pub before-requires-clause-small : goal.before-requires-clause-small
before-requires-clause-small c =
    omega (arith, counts_all c.args.slots.now c.args.counts.now c.requires.counts, few_pairs c.args.slots.now, c.requires.counts.small)

pub overflow_add-result : goal.overflow_add-result
overflow_add-result c =
    omega (
      arith,
      ints,
      c.before-2.ensures,
      c.count_pairs.ensures,
      block_and_rest c.args.slots.now c.args.counts.now c.requires.counts c.args.slot
          c.requires.within,
      few_before c.args.slots.now c.args.slot,
      c.ranges.slot.fits,
    )

pub returns : goal.returns
returns c = omega (arith, c.before-2.ensures, c.count_pairs.ensures, block_and_rest c.args.slots.now c.args.counts.now c.requires.counts c.args.slot c.requires.within)
