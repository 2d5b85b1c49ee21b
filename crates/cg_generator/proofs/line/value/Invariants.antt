use Rattle.std.proofs.Common.{◌≡◌, ◌≤◌, min, drop}
use Rattle.cg_script.specs.Words.{decimal_after, decimal_value}
use Rattle.cg_generator.specs.Tallies.{largest}
use Rattle.cg_generator.proofs.line.value.Given as goal

-- the remaining digits make the same number
abbrev pub invariant-digits : goal.invariant-digits
invariant-digits l = record {
  same : min (decimal_after l.so_far (drop l.digit-index l.digits)) largest ≡ min (decimal_value l.digits) largest;
  few : l.so_far ≤ largest;
}
