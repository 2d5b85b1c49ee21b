use Rattle.std.proofs.Common.{◌≡◌, ℕ, ◌<◌, ◌^◌, get_or, drop}
use Rattle.std.specs.Int.{IsInRange}
use Rattle.cg_records.proofs.Numbers.{digits_after}
use Rattle.cg_records.proofs.number.number_of_word.Given as goal

-- the digits so far, and the value of all digits
abbrev pub invariant-digits : goal.invariant-digits
invariant-digits l = record {
  each : (k : ℕ) → k < l.digit-index → IsInRange 48 57 (get_or l.word k 0);
  value : digits_after l.number (drop l.digit-index l.word) ≡ digits_after 0 l.word;
  small : l.number < 2 ^ 64;
}
