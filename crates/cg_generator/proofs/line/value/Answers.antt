use Rattle.std.proofs.Common.{◌∙◌, arith}
use Rattle.cg_generator.proofs.Numbers.{next_digit, no_digit_left}
use Rattle.cg_generator.proofs.line.value.Goals as goal

pub digits-preserved : goal.digits-preserved
digits-preserved c =
    record {
      same = next_digit c.args.digits.now c.digits.digit-index c.digits.so_far c.from-unit.result c.saturating_add-so_far.result _ c.digits-test.true
          (c.from-unit.ensures ∙ c.saturating_sub.ensures) (omega (arith, c.saturating_add-so_far.ensures, c.saturating_mul.ensures)) c.digits.invariant.same;
      few = omega (arith, c.saturating_add-so_far.type_inv);
    }

pub returns : goal.returns
returns c = no_digit_left c.args.digits.now c.digits.digit-index c.digits.so_far _ c.digits-test.false c.digits.invariant.few c.digits.invariant.same
