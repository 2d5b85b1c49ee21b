use Rattle.std.proofs.Common.{◌≡◌, ◌∙◌, ◌+◌, ◌*◌, ap, take, drop, set, get_or, arith, inl, inr}
use Rattle.std.proofs.lemmas.Int.{ints}
use Rattle.std.proofs.lemmas.Bool.{cases_eq}
use Rattle.std.proofs.lemmas.List.{drop_min, drop-drop, get_or-set_same, get_or-set_other}
use Rattle.std.specs.List.{sum}
use Rattle.cg_kinds.proofs.SumLemmas.{sum_here, sum_here_part, part_taken}
use Rattle.cg_kinds.proofs.sums.sum_parts.Goals as goal

pub sum_of-requires : goal.sum_of-requires
sum_of-requires c = omega (
  arith,
  part_taken c.args.numbers.now c.parts.rest.now c.split_at.result.0.now c.parts.part c.min.result c.split_at.ensures.front
      c.min.ensures c.parts.invariant.rest,
  sum_here_part c.args.numbers.now c.parts.part,
  c.requires.small,
)

pub overflow_cast-sums : goal.overflow_cast-sums
overflow_cast-sums c = omega (
  arith,
  ints,
  c.sum_of.ensures,
  part_taken c.args.numbers.now c.parts.rest.now c.split_at.result.0.now c.parts.part c.min.result
      c.split_at.ensures.front c.min.ensures c.parts.invariant.rest,
  sum_here_part c.args.numbers.now c.parts.part,
  c.requires.small,
)

pub parts-preserved : goal.parts-preserved
parts-preserved c =
    let numbers = c.args.numbers.now in
    let rest = c.parts.rest.now in
    let at = c.parts.part in
    let here = part_taken c.args.numbers.now c.parts.rest.now c.split_at.result.0.now c.parts.part c.min.result c.split_at.ensures.front c.min.ensures c.parts.invariant.rest in
    let n : 16 * at + 16 ≡ 16 * (at + 1) = omega arith in
    record {
      rest =
          c.split_at.ensures.back
          ∙ ap (λ n. drop n rest) c.min.ensures
          ∙ drop_min 16 rest
          ∙ ap (drop 16) c.parts.invariant.rest
          ∙ drop-drop 16 (16 * at) numbers
          ∙ ap (λ n. drop n numbers) n;
      summed = λ part below. elim (cases_eq part at) [
        | inl same ↦
            let s : get_or (set c.parts.sums at c.sum_of.result) part 0 ≡ c.sum_of.result = ap (λ n. get_or (set c.parts.sums at c.sum_of.result) n 0) same
            ∙ get_or-set_same c.parts.sums at c.sum_of.result 0 (omega (arith, c.parts-test.true, c.parts.auto.sums)) in
            let t : sum (take 16 (drop (16 * part) numbers)) ≡ sum (take 16 (drop (16 * at) numbers)) = ap (λ n. sum (take 16 (drop (16 * n) numbers))) same in
            omega (arith, s, t, sum_here numbers part, c.sum_of.ensures, here)
        | inr differs ↦
            let s = get_or-set_other c.parts.sums at part c.sum_of.result 0 differs in
            omega (arith, s, c.parts.invariant.summed part (omega (arith, below, differs)))
      ];
    }
