use Rattle.std.proofs.Common.{◌≡◌, ◌∙◌, ap, length, arith}
use Rattle.std.specs.List.{sum}
use Rattle.std.proofs.lemmas.List.{with_items_is}
use Rattle.cg_kinds.proofs.SumLemmas.{dealt_sum, sum_all}
use Rattle.cg_kinds.proofs.sums.Sums.deal.Goals as goal

pub sum_again-requires-clause-small : goal.sum_again-requires-clause-small
sum_again-requires-clause-small c =
    let dealt = c.deal_out.new.numbers in
    let is : sum c.as_slice.result.now ≡ sum dealt = ap sum (c.as_slice.ensures.value ∙ with_items_is c.self.inside.numbers dealt
    (omega (arith, c.deal_out.ensures.long, c.as_mut_slice.ensures.len))) in
    omega (arith, is, sum_all dealt (length dealt) (omega arith), dealt_sum dealt c.args.count c.deal_out.ensures.each (length dealt) (omega arith), c.requires)
