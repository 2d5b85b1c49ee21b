use Rattle.std.proofs.Common.{◌≡◌, ◌+◌, ◌-◌, ◌≤◌, length, drop}
use Rattle.std.specs.List.{prefix_len}
use Rattle.cg_script.specs.Words.{is_digit}
use Rattle.cg_generator.proofs.line.digits_at_front.Given as goal

-- those so far are digits
abbrev pub invariant-digits : goal.invariant-digits
invariant-digits l = record {
  within : l.count ≤ length l.bytes;
  more : l.count + prefix_len is_digit (drop l.count l.bytes) ≡ prefix_len is_digit l.bytes;
}

abbrev pub decreases-digits : goal.decreases-digits
decreases-digits l = length l.bytes - l.count
