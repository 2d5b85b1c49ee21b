use Rattle.std.proofs.Common.{◌≡◌, ◌∙◌, ◌+◌, ◌-◌, ◌*◌, ◌/◌, ap, length, take, drop, arith}
use Rattle.std.proofs.lemmas.Int.{ints}
use Rattle.std.specs.List.{sum}
use Rattle.cg_kinds.specs.Order.{sum_before}
use Rattle.cg_kinds.proofs.SumLemmas.{above_told, all_parts, part_and_rest, sum_part}
use Rattle.cg_kinds.proofs.sums.Sums.+before.Goals as goal

pub before-requires : goal.before-requires
before-requires t c =
    let numbers = c.self.inside.numbers.items in
    let above = above_told numbers c.self.inside.above c.in-Some.parts c.self.invariant c.in-Some.is in
    let long = ap length c.deref.ensures in
    let whole : length numbers ≡ length c.args.self.now = ap length c.self.view_is in
    let all : sum c.deref.result.now ≡ sum c.args.self.now = ap sum c.deref.ensures ∙ all_parts numbers c.in-Some.parts.value above ∙ ap sum c.self.view_is in
    (omega (arith, c.decreases, above.fewer, long, whole), (omega (arith, c.requires.within, above.covered, long, whole), omega (arith, all, c.requires.small)))

returned : (t : _) (c : goal.After-sum_of t) → c.before-in-Some.result + c.sum_of.result ≡ sum_before c.args.self.now c.args.i
returned t c =
    let numbers = c.self.inside.numbers.items in
    let above = above_told numbers c.self.inside.above c.in-Some.parts c.self.invariant c.in-Some.is in
    let first = c.before-in-Some.ensures ∙ ap (λ l. sum_before l (c.args.i / 16)) c.deref.ensures in
    let rest = c.sum_of.ensures ∙ ap (λ l. sum (take (c.args.i - c.args.i / 16 * 16) (drop (c.args.i / 16 * 16) l))) c.deref-in-Some.ensures.value in
    let whole : length numbers ≡ length c.args.self.now = ap length c.self.view_is in
    let is : sum_before numbers c.args.i ≡ sum_before c.args.self.now c.args.i = ap (λ l. sum_before l c.args.i) c.self.view_is in
    omega (arith, first, rest, is, part_and_rest numbers c.in-Some.parts.value above c.args.i (omega (arith, c.requires.within, whole)))

pub sum_of-requires : goal.sum_of-requires
sum_of-requires t c =
    let numbers = c.self.inside.numbers.items in
    let above = above_told numbers c.self.inside.above c.in-Some.parts c.self.invariant c.in-Some.is in
    let rest = ap (λ l. sum (take (c.args.i - c.args.i / 16 * 16) (drop (c.args.i / 16 * 16) l))) c.deref-in-Some.ensures.value in
    let whole : length numbers ≡ length c.args.self.now = ap length c.self.view_is in
    let all : sum numbers ≡ sum c.args.self.now = ap sum c.self.view_is in
    omega (arith, rest, part_and_rest numbers c.in-Some.parts.value above c.args.i (omega (arith, c.requires.within, whole)), sum_part numbers c.args.i, all, c.requires.small)

pub overflow_add-result : goal.overflow_add-result
overflow_add-result t c = omega (arith, ints, returned t c, sum_part c.args.self.now c.args.i, c.requires.small)

pub returns-in-Some : goal.returns-in-Some
returns-in-Some t c = returned t c
