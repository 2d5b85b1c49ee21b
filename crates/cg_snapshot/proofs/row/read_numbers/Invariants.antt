use Rattle.std.proofs.Common.{◌≡◌, ◌++◌, length}
use Rattle.cg_snapshot.specs.Rows.{all_spaced, AreSmall, IsTail}
use Rattle.cg_snapshot.proofs.row.read_numbers.Given as goal

-- the numbers so far, and the rest
abbrev pub invariant-numbers : goal.invariant-numbers
invariant-numbers l = record {
  found : l.bytes ≡ all_spaced l.numbers ++ l.rest;
  small : AreSmall l.numbers;
  tail : IsTail l.rest;
}

abbrev pub decreases-numbers : goal.decreases-numbers
decreases-numbers l = length l.rest
