use Rattle.std.proofs.Common.{◌≡◌, ◌∙◌, get_or, arith}
use Rattle.cg_kinds.proofs.SlotLemmas.{counts_reach, counts_all, full_block}
use Rattle.cg_kinds.proofs.slots.slot_of.Goals as goal

pub reached-block-requires : goal.reached-block-requires
reached-block-requires c = omega (arith, counts_all c.args.slots.now c.args.counts.now c.requires.counts, c.requires.within)

pub slot_from-requires : goal.slot_from-requires
slot_from-requires c =
    let reach = counts_reach c.args.slots.now c.args.counts.now c.requires.counts c.reached-block.result.0 (omega (arith, c.reached-block.ensures.within)) in
    omega (arith, reach, c.reached-block.ensures.before, c.requires.within)

pub returns-then-at-eq-PART-clause-before : goal.returns-then-at-eq-PART-clause-before
returns-then-at-eq-PART-clause-before c =
    let block = c.reached-block.result.0 in
    let left = c.reached-block.result.1 in
    let reach = counts_reach c.args.slots.now c.args.counts.now c.requires.counts block (omega (arith, c.reached-block.ensures.within)) in
    let full : get_or c.args.counts.now block 0 ≡ 16 = omega (arith, c.at.ensures, c.if-at-eq-PART.true) in
    let all = full_block c.args.slots.now c.args.counts.now c.requires.counts block left c.reached-block.ensures.within full (omega (arith, full, c.reached-block.ensures.there)) in
    all.0 ∙ (omega (arith, reach, c.reached-block.ensures.before))

pub returns-then-at-eq-PART-clause-there : goal.returns-then-at-eq-PART-clause-there
returns-then-at-eq-PART-clause-there c =
    let block = c.reached-block.result.0 in
    let left = c.reached-block.result.1 in
    let full : get_or c.args.counts.now block 0 ≡ 16 = omega (arith, c.at.ensures, c.if-at-eq-PART.true) in
    (full_block c.args.slots.now c.args.counts.now c.requires.counts block left c.reached-block.ensures.within full (omega (arith, full, c.reached-block.ensures.there))).1

pub returns-else-at-eq-PART-clause-before : goal.returns-else-at-eq-PART-clause-before
returns-else-at-eq-PART-clause-before c =
    let reach = counts_reach c.args.slots.now c.args.counts.now c.requires.counts c.reached-block.result.0 (omega (arith, c.reached-block.ensures.within)) in
    omega (arith, reach, c.reached-block.ensures.before, c.slot_from.ensures.before)
