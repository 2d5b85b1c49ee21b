use Rattle.std.proofs.Common.{◌≡◌, ◌∙◌, ◌*◌, ap, length, arith}
use Rattle.std.specs.List.{sum}
use Rattle.cg_kinds.specs.Order.{sum_before}
use Rattle.cg_kinds.proofs.SumLemmas.{above_told, part_reach, all_parts}
use Rattle.cg_kinds.proofs.sums.Sums.+reached.Goals as goal

pub reached-part-requires : goal.reached-part-requires
reached-part-requires t c =
    let numbers = c.self.inside.numbers.items in
    let above = above_told numbers c.self.inside.above c.in-Some.parts c.self.invariant c.in-Some.is in
    let all : sum c.deref.result.now ≡ sum c.args.self.now = ap sum c.deref.ensures ∙ all_parts numbers c.in-Some.parts.value above ∙ ap sum c.self.view_is in
    (omega (arith, c.decreases, above.fewer, ap length c.deref.ensures, ap length c.self.view_is), omega (arith, c.requires, all))

pub returns-in-Some-clause-before : goal.returns-in-Some-clause-before
returns-in-Some-clause-before t c =
    let numbers = c.self.inside.numbers.items in
    let part = c.reached-part.result.0 in
    let above = above_told numbers c.self.inside.above c.in-Some.parts c.self.invariant c.in-Some.is in
    let reach = part_reach numbers c.in-Some.parts.value above part (omega (arith, c.reached-part.ensures.within, ap length c.deref.ensures)) in
    let first : sum_before c.deref.result.now part ≡ sum_before c.in-Some.parts.value part = ap (λ l. sum_before l part) c.deref.ensures in
    let slice : sum_before c.as_slice.result.now (part * 16) ≡ sum_before numbers (part * 16) = ap (λ l. sum_before l (part * 16)) c.as_slice.ensures.value in
    let found : sum_before c.as_slice.result.now c.reached_from.result.0 ≡ sum_before c.args.self.now c.reached_from.result.0 =
    ap (λ l. sum_before l c.reached_from.result.0) (c.as_slice.ensures.value ∙ c.self.view_is) in
    omega (arith, reach, first, slice, found, c.reached-part.ensures.before, c.reached_from.ensures.before)
