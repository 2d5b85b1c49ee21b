use Rattle.std.proofs.Common.{◌≡◌, ◌+◌, ◌≤◌, ◌^◌, drop, true}
use Rattle.std.specs.List.{list_all}
use Rattle.cg_script.specs.Words.{is_digit, decimal_after, decimal_value}
use Rattle.cg_script.proofs.word.decimal.Given as goal

-- the digits so far, and the remaining ones
abbrev pub invariant-digits : goal.invariant-digits
invariant-digits l = record {
  same : decimal_after l.value (drop l.digit-index l.digits) ≡ decimal_value l.digits;
  all : list_all is_digit (drop l.digit-index l.digits) ≡ true;
  small : l.value + 1 ≤ 10 ^ l.digit-index;
}
