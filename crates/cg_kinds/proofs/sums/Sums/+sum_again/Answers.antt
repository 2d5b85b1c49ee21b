use Rattle.std.proofs.Common.{◌≡◌, ◌∙◌, ◌*◌, refl, ap, length, arith}
use Rattle.std.specs.List.{sum}
use Rattle.std.proofs.lemmas.List.{with_items_is}
use Rattle.cg_kinds.specs.Order.{sum_before}
use Rattle.cg_kinds.proofs.SumLemmas.{above_told, sums_reach, sum_all}
use Rattle.cg_kinds.proofs.sums.Sums.+sum_again.Goals as goal

pub sum_again-requires : goal.sum_again-requires
sum_again-requires t c =
    let above = above_told c.self.inside.numbers.items c.self.inside.above c.in-Some.parts c.self.invariant c.in-Some.is in
    let sums = c.sum_parts.new.sums in
    let long : length sums ≡ length c.self.inside.numbers.items = c.sum_parts.ensures.long ∙ ap length c.as_mut_slice.ensures.value in
    let whole : length c.self.inside.numbers.items ≡ length c.args.self.now = ap length c.self.view_is in
    let is = c.as_slice.ensures.value ∙ with_items_is c.self.inside.numbers sums (omega (arith, c.sum_parts.ensures.long, c.as_mut_slice.ensures.len)) in
    let now : length c.as_slice.result.now ≡ length sums = ap length is in
    let parts = ap length c.deref_mut.ensures.value in
    let all : sum c.as_slice.result.now ≡ sum sums = ap sum is in
    let reach = sums_reach (sum_before c.args.numbers.now) sums refl c.sum_parts.ensures.each (length sums) (omega arith) in
    let whole_sum = sum_all c.args.numbers.now (16 * length sums) (omega (arith, c.requires.covered, long, whole)) in (
      omega (arith, c.decreases, above.fewer, parts, whole),
      (omega (arith, now, long, parts, above.covered), omega (arith, all, reach, whole_sum, sum_all sums (length sums) (omega arith), c.requires.small)),
    )
